pub mod Settling
pub mod Importing
pub mod Kept
pub mod Standing
