pub mod Shared
pub mod Stepped
pub mod Found
pub mod Looked
