-- Laws that the proofs of *Settle layouts* cite.
pub mod Outcome
