-- What each step of the reader promises, and the laws of reading line by line.
pub mod Steps
pub mod Lines
pub mod Held
pub mod Lent
