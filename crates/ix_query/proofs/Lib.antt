pub mod Begun
pub mod Grown
pub mod Lifted
pub mod Passed
pub mod Searched
pub mod Sorted
