pub mod Rules
pub mod Tasks
pub mod Progress
pub mod Calls
pub mod Views
pub mod TurnView
pub mod Laws
