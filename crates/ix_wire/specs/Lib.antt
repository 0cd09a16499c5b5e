pub mod Fronts
pub mod Grammar
pub mod Input
pub mod Laws
pub mod Read
pub mod Reading
pub mod Spelling
