pub mod Brought
pub mod Led
pub mod Members
pub mod Needed
