pub mod Listings
pub mod Forms
pub mod Asking
pub mod Trees
pub mod Whole
