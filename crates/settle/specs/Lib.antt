-- A settled tree, and what the steps of settling promise one another.
pub mod Spanned
pub mod Numbering
pub mod Stamps
pub mod Checked
