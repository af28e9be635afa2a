pub mod InRange
pub mod Broken
pub mod Shuffles
pub mod Picking
pub mod Seeded
