pub mod Evicts
pub mod Senses
pub mod States
