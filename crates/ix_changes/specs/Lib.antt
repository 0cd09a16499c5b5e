pub mod Given
pub mod Holds
pub mod Stamps
pub mod Syncs
