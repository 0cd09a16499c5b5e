pub mod Counted
pub mod Parting
pub mod Recounting
pub mod Stepping
pub mod Gathering
pub mod Dealing
pub mod Making
