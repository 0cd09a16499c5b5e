pub mod Door
pub mod Faults
pub mod Fronts
pub mod Grammar
pub mod Merged
pub mod Readers
pub mod Seal
pub mod Written
