pub mod Choosing
pub mod Contents
pub mod Entering
pub mod Meeting
pub mod Sights
