-- Laws that the proofs of checking the jobs cite.
pub mod JobVerdicts
