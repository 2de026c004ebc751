pub mod Changes
pub mod Counts
pub mod PathRemoval
pub mod Places
pub mod Removal
pub mod SmallestPart
