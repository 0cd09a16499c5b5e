pub mod Changes
pub mod Given
pub mod OnDisk
pub mod Prefixes
pub mod Shapes
pub mod Stands
pub mod UnitFiles
