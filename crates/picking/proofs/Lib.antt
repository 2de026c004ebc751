pub mod Draws
pub mod Picked
pub mod Read
pub mod Run
pub mod Unpicked
