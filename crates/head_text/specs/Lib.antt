pub mod Bytes
pub mod Drafts
pub mod Said
pub mod Texts
