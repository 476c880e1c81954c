-- Laws that several proofs cite.
pub mod Digits
pub mod Frames
