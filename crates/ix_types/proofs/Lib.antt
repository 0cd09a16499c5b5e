pub mod Hex
pub mod LookUps
pub mod SharedBits
pub mod TableRows
pub mod Texts
pub mod Words
