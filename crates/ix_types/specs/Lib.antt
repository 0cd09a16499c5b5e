pub mod CodeRows
pub mod Codes
pub mod Count
pub mod Name
pub mod NameFields
pub mod Row
pub mod Text
