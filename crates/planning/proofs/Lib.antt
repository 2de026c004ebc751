pub mod Heads
pub mod Lined
pub mod Reading
