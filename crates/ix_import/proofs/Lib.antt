pub mod Listed
pub mod Nexts
pub mod Taken
pub mod Going
pub mod Least
pub mod Steps
