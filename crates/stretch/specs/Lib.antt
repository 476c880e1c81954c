pub mod StretchLaws
pub mod StretchPaths
pub mod SharedLayouts
