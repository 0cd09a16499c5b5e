pub mod Rules
pub mod Made
pub mod Named
pub mod Laws
