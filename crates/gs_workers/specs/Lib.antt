pub mod Deals
pub mod Groups
pub mod Flags
pub mod Faults
