pub mod Actions
pub mod Rules
