pub mod Calling
pub mod Sound
pub mod Turns
