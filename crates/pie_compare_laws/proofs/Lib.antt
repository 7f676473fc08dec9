pub mod Ways
pub mod Agreement
pub mod Stamped
pub mod Observed
pub mod Standing
