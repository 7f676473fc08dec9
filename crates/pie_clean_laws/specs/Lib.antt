pub mod Basing
pub mod Left
pub mod inner
