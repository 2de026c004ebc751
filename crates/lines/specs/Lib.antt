pub mod Counts
pub mod Words
pub mod Visits
