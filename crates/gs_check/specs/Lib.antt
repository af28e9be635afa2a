pub mod FirstLine
pub mod Summary
pub mod Shown
pub mod Near
pub mod Words
pub mod Program
pub mod Readings
