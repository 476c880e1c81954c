-- What document 01 says, as document 02 changed it, in definitions: read these files beside docs/RULES.md, in this order. Its section 17 has every definition with its section.
pub mod Lists
pub mod Verdict
pub mod Tree
pub mod Jobs
pub mod Order
pub mod Greedy
pub mod Grouping
pub mod Visits
pub mod Rival
pub mod Planning
pub mod Table
pub mod Output
pub mod Stretch
pub mod Answers
pub mod Cells
pub mod Outcomes
pub mod Examples
