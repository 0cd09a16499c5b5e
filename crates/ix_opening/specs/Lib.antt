pub mod AfterOpening
pub mod Fault
pub mod Found
pub mod Judged
pub mod Known
pub mod Steps
