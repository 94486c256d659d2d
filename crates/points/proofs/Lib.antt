pub mod Reach
pub mod Inside
