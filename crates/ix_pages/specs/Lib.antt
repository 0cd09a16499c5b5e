pub mod Pairs
pub mod Paging
pub mod Heads
pub mod Leads
pub mod Tree
pub mod Roots
pub mod Changes
pub mod Edits
