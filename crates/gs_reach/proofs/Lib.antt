pub mod Ordered
pub mod FirstOnes
pub mod Counted
pub mod Publishers
pub mod Filings
pub mod Listings
