pub mod Tables
pub mod Same
pub mod Listed
pub mod Checks
pub mod Lists
