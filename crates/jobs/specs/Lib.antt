-- What checking the jobs promises, and what a table that *Plan* accepts has.
pub mod Columns
pub mod Checks
pub mod Accepted
pub mod PlanVerdict
