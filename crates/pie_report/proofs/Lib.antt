pub mod Floats
pub mod Sorting
