pub mod Faults
pub mod Dials
pub mod Given
pub mod Tasks
pub mod Lives
