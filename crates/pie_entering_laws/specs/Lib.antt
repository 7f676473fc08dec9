pub mod Entering
pub mod inner
