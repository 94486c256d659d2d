pub mod Grids
pub mod GridsLemmas
