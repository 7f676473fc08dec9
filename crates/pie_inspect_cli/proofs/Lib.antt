pub mod FirstRefusal
pub mod Printing
