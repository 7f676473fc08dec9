pub mod Settling
pub mod Making
