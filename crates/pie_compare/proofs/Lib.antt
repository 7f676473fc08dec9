pub mod Asks
pub mod Shown
pub mod Sights
pub mod Touches
pub mod Turns
pub mod Written
