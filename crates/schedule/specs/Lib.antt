pub mod Schedule
pub mod InWork
pub mod OfTable
pub mod Places
