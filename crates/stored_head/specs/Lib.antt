pub mod Forms
pub mod Heads
pub mod Laws
pub mod Loads
pub mod Numbers
