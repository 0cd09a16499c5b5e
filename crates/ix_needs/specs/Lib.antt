pub mod Chosen
pub mod Premises
