pub mod Names
pub mod Rpcs
pub mod Codecs
pub mod Tokens
pub mod Neighbours
