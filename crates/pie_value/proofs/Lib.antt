pub mod SizeLemmas
pub mod Elements
pub mod Writing
pub mod TextTests
pub mod Taking
pub mod Turns
pub mod ReadBack
pub mod WriteBack
pub mod Decoded
pub mod Lengths
pub mod Orders
pub mod Escapes
mod Examples
pub mod TypeElements
