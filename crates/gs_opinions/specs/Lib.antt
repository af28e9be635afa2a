pub mod Lowest
pub mod Opinions
pub mod Runs
pub mod Cells
pub mod Noting
pub mod Reading
pub mod Listing
pub mod Judging
