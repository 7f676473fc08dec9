pub mod Candidates
pub mod Cycles
pub mod Founds
pub mod Places
pub mod Runs
pub mod Sides
pub mod Standing
