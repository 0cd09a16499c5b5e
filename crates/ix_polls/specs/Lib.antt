pub mod Following
pub mod Given
pub mod Polling
