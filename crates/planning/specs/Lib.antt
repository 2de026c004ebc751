pub mod Grammar
pub mod Lines
pub mod Messages
pub mod Placed
pub mod Planned
pub mod Words
