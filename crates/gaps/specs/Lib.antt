-- The gaps from each place to the next one of its window, and their laws.
pub mod Gaps
pub mod GapLaws
