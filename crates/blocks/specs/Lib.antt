pub mod Rounding
pub mod Words
pub mod Systems
pub mod Layouts
pub mod Refusals
pub mod Blocks
