pub mod Door
pub mod Fields
pub mod Fronts
pub mod Items
pub mod Loop
pub mod Numbers
pub mod Readers
pub mod Steps
