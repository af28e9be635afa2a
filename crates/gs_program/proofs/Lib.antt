mod Further
mod Orders
pub mod Meets
pub mod Noted
pub mod Planned
