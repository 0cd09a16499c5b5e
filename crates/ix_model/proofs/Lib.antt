pub mod Definitions
pub mod Door
pub mod Orders
pub mod Places
pub mod Publications
pub mod SortedSet
pub mod ZippedRows
