pub mod Indexes
pub mod Parts
pub mod Table
