pub mod Ranks
pub mod Keys
