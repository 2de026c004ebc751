pub mod Bytes
pub mod Limits
pub mod Names
pub mod Padded
