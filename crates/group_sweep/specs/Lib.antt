-- What a sweep for a press with more lanes promises, and its laws.
pub mod Grouped
pub mod Taking
pub mod Steps
pub mod Whole
