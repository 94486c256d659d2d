pub mod Asked
pub mod Ranked
