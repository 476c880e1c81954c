-- Laws on plain lists and numbers, for the proofs of this crate.
mod Laws
