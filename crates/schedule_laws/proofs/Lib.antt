-- What the schedule defines is the table's own compatibility.
pub mod RowWindows
pub mod Theorem
