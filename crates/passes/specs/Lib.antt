pub mod Read
pub mod OfTable
pub mod PlanPass
pub mod Making
pub mod WindowShelves
