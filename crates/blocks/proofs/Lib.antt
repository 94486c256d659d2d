pub mod Rounds
pub mod Limits
pub mod Rows
pub mod Loads
