pub mod Sharing
pub mod Items
pub mod Steps
pub mod Kept
pub mod Looking
