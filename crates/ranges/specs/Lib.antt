pub mod Cut
pub mod Exact
pub mod Messages
pub mod Pieces
pub mod Refusals
pub mod Requests
pub mod Rounding
