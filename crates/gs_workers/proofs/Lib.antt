pub mod Members
pub mod Ending
pub mod Dealing
pub mod Gathering
pub mod Running
pub mod Flags
