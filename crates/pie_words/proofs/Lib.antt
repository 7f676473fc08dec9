pub mod Apart
pub mod Demos
pub mod Taken
