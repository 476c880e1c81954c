-- The reading before 2026-04, and the tables that it read.
pub mod LayoutsFirst
pub mod OldTables
