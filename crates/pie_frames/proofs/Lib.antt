pub mod Handing
pub mod Rest
pub mod Tying
pub mod Weighing
