pub mod Letters
pub mod Observing
pub mod Outlets
pub mod Peers
pub mod Runs
pub mod Stages
