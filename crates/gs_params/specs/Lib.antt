pub mod Checks
pub mod Params
pub mod Picks
pub mod Seeding
