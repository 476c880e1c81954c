-- What reading a table comes to, put together from its parts.
pub mod Whole
pub mod Lent
