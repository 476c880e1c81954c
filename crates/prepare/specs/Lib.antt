-- What the steps of the counting sorts promise, and the laws from there to the schedule of the table.
pub mod Steps
pub mod RowKeys
pub mod StepLaws
pub mod PreparedLaws
