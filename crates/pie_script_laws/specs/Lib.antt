pub mod Scripts
pub mod Played
pub mod Finding
