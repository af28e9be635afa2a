pub mod Order
pub mod Filed
pub mod Tables
pub mod Listed
pub mod Listing
pub mod Messages
pub mod Reached
pub mod Chosen
