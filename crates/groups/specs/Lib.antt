-- The groups of an accepted table, by place in the members' cells.
pub mod GroupPlan
