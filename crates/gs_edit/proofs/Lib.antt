pub mod Paths
pub mod Numbers
pub mod Setting
pub mod Editing
pub mod Holding
