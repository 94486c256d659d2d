pub mod Alphabets
pub mod Questions
pub mod Padding
pub mod Lists
