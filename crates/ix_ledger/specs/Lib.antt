pub mod Kept
pub mod Handles
pub mod Logged
pub mod Books
pub mod Effects
pub mod OfState
pub mod Registered
pub mod Fresh
