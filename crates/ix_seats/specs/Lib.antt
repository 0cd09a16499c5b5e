pub mod Seated
pub mod Seats
pub mod Made
pub mod Coming
