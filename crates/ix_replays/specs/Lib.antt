pub mod Run
pub mod Text
pub mod Worked
pub mod Laws
