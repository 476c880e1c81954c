-- The schedule of an accepted table: the places of its jobs, their slots and what they ask for.
pub mod Places
pub mod Asked
pub mod Row
pub mod ReachOrder
