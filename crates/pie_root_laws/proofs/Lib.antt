pub mod Examples
pub mod Only
pub mod Pieces
pub mod Values
