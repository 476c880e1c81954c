pub mod Writing
pub mod Writers
