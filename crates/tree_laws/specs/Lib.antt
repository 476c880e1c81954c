-- Laws of the tree of layouts, after document 01's "The tree and the running order".
pub mod WellFormed
pub mod Ancestors
pub mod Children
pub mod Leaves
pub mod Spans
pub mod Paths
pub mod Branches
pub mod Sharing
pub mod Deepest
pub mod Shared
