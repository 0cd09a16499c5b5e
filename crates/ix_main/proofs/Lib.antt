pub mod Inputs
pub mod TooMany
