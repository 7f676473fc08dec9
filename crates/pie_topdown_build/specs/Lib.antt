pub mod Anew
pub mod Clean
pub mod Crashes
pub mod Ran
pub mod Records
pub mod Refusals
pub mod inner
