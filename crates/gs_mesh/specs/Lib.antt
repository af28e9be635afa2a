pub mod Peers
pub mod Backoffs
pub mod Cuts
pub mod Meshes
pub mod MeshSteps
