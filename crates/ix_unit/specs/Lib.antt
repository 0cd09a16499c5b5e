pub mod ByKind
pub mod Fault
pub mod Gives
pub mod Laws
pub mod Order
pub mod Reading
pub mod Spelling
pub mod Value
