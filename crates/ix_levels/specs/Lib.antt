pub mod Levels
pub mod Trail
