pub mod Runs
pub mod Left
pub mod Given
