-- The lowest common ancestor of two layouts, and the sparse table that it is found by.
pub mod Ancestry
pub mod SparseTable
pub mod Room
pub mod Searching
