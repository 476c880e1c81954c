pub mod Printing
pub mod Whole
pub mod Sound
pub mod OfPlan
pub mod Presses
pub mod Within
