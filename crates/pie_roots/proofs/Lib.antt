pub mod Complete
mod Examples
pub mod OneRoot
pub mod Readings
pub mod RootLines
pub mod Sound
pub mod Splitting
pub mod Turns
