-- Laws that the proofs of settling cite.
pub mod Laws
pub mod Linking
pub mod WaysUp
pub mod Walk
pub mod Outcome
pub mod LinkCells
