pub mod Held
pub mod Listings
pub mod inner
