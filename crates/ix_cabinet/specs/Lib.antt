pub mod Changes
pub mod Fault
pub mod Scan
