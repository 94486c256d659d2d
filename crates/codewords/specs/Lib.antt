pub mod Codebooks
pub mod Codewords
pub mod Distances
pub mod Targets
pub mod Nearest
pub mod Numbers
