-- What the loop over the lines keeps.
pub mod Reading
