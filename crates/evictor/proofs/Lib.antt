pub mod Bounds
pub mod Forgetting
pub mod Laws
pub mod Refusals
pub mod Through
pub mod Whole
