pub mod Bringing
pub mod Ending
pub mod Members
pub mod Others
pub mod Reading
pub mod Standing
pub mod Stepping
