pub mod Found
pub mod Loaded
