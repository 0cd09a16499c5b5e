pub mod Importing
pub mod Leading
