pub mod Closes
pub mod KeepsRule
pub mod Views
pub mod Flats
mod Rows
