pub mod Sightings
pub mod Buckets
pub mod CachedMessages
pub mod Windows
pub mod Payloads
