pub mod Adapter
pub mod Failures
pub mod Memory
pub mod Transfer
