pub mod Records
pub mod Refusals
pub mod Listings
pub mod Searches
