pub mod Maps
pub mod InOneGo
pub mod NeedLists
pub mod States
pub mod Making
pub mod Freshly
pub mod MayBeMade
pub mod FreshNames
