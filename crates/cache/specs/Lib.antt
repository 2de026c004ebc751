pub mod Caches
pub mod Keys
pub mod Tracking
pub mod SameKey
