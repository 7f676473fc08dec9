pub mod Flipped
pub mod PathKeys
pub mod Settling
pub mod Turning
pub mod Carried
pub mod Leading
pub mod Walks
