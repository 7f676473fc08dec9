pub mod Left
pub mod Settling
pub mod Turning
