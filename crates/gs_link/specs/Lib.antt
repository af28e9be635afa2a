pub mod Items
pub mod Runs
pub mod Moves
pub mod Refusals
pub mod Ends
pub mod Fields
pub mod Flat
