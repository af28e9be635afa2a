pub mod ListsByPeer
pub mod Faults
pub mod Rounds
pub mod Own
pub mod Routers
pub mod Reports
pub mod Played
