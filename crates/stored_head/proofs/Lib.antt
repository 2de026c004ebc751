pub mod Groups
pub mod Lawful
pub mod Merging
pub mod Named
pub mod Reading
pub mod Sequence
pub mod Whole
