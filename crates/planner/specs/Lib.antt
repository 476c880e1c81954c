pub mod Planned
pub mod Columns
pub mod Copies
