pub mod Outline
pub mod Balance
pub mod Known
pub mod Facts
pub mod Finding
pub mod Moving
pub mod Following
