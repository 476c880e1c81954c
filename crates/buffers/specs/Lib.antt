-- What is promised of a table's lent buffers.
pub mod Lent
