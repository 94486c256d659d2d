pub mod Pams
pub mod Steps
pub mod PamsLemmas
