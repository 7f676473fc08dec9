pub mod Sameness
pub mod Grown
