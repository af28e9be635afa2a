pub mod Keys
pub mod Rest
pub mod Documents
pub mod Sets
pub mod Edits
pub mod Endings
pub mod Program
