pub mod Ended
pub mod Named
pub mod Edges
pub mod Further
pub mod Paths
