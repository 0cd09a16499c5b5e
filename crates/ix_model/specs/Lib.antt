pub mod Answer
pub mod Machine
pub mod Rows
pub mod SortedSet
pub mod Units
