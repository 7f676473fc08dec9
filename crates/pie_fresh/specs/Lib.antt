pub mod Told
pub mod Cleans
pub mod inner
