pub mod Trace
pub mod Crashes
pub mod Looks
pub mod Replays
pub mod inner
