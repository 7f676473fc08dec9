pub mod Manners
pub mod Writes
