pub mod Fronts
pub mod Segments
