pub mod Changes
pub mod Endings
pub mod Follows
pub mod Fronts
pub mod Names
pub mod Others
pub mod Turning
pub mod Turns
