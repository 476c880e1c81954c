-- Laws that rest on a shelf's place in the row, and on the bound of a lookup's visits.
pub mod ShelfLaws
pub mod Chosen
