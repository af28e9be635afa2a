pub mod Shapes
pub mod Headers
pub mod Standings
pub mod Receiving
pub mod Gathered
