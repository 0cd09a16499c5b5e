pub mod Sending
pub mod Texts
