-- Plain laws that all others are proved with; nothing here is of the tree of layouts.
pub mod Booleans
pub mod Verdicts
pub mod Lists
pub mod Without
pub mod Reversed
pub mod Numbers
pub mod Counting
pub mod Places
pub mod Sorting
pub mod Levels
pub mod Least
pub mod Firsts
