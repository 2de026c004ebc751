pub mod Remainders
