-- Laws that the proofs of planning cite.
pub mod Lengths
pub mod RightJobs
