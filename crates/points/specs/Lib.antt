pub mod Points
pub mod Texts
