pub mod Counts
pub mod Listing
pub mod Tallied
pub mod Guarding
pub mod Protection
pub mod Reasons
pub mod OfMachine
