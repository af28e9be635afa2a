pub mod PlainPlaces
pub mod Verdicts
pub mod Nearer
pub mod Readings
