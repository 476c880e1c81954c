-- That every table read before 2026-04 is read as it was.
pub mod AsBefore
