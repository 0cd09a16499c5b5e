pub mod Answered
pub mod Needed
pub mod Rows
pub mod Sets
pub mod Sufficing
pub mod Loading
