-- What is read at fixed positions of a line, and what that tells of the line.
pub mod Fields
pub mod Lines
