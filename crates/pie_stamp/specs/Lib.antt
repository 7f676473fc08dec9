pub mod Faithful
pub mod Observations
pub mod Stamps
