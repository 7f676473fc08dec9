pub mod Above
pub mod Calls
pub mod Knowing
pub mod Staying
