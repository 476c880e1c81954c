-- The lines of a grouping, and the groups of a table as they are read off the members' cells.
pub mod Lines
pub mod OfTable
