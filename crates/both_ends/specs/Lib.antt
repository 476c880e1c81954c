-- The ends of the shared stretch, as U and L.
pub mod Ends
