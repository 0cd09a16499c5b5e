pub mod Ended
pub mod Looks
