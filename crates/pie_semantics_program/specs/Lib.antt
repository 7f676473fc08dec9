pub mod Bindings
pub mod Stored
pub mod Coming
pub mod Grown
pub mod Lines
pub mod Whole
