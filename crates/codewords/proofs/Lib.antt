pub mod Numbering
pub mod Best
pub mod Targets
pub mod Bounds
pub mod Sums
pub mod Order
pub mod Deciding
