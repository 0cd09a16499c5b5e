pub mod Sees
pub mod Below
