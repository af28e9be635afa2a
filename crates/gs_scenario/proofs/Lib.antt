pub mod Lists
pub mod Checked
pub mod Places
pub mod ByKey
pub mod Ranges
pub mod ElementRanges
pub mod PlanRanges
