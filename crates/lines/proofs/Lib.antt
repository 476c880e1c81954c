-- Laws of the digits that are written.
pub mod DigitBytes
