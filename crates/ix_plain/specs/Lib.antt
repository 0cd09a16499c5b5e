pub mod Ending
pub mod Output
