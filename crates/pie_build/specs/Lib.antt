pub mod Asked
pub mod Crashes
pub mod Left
pub mod Stored
pub mod inner
