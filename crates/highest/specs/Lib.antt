-- The columns that planning goes by, and how far they are set.
pub mod Columns
