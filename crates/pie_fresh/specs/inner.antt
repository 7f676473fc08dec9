-- Definitions that no clause of `pie_cli::run` rests on: invariants, and what crates say to each other.
pub mod Ledgers
pub mod Ordered
pub mod Frames
pub mod Turns
pub mod Cycles
pub mod Sights
pub mod Kept
pub mod Means
pub mod Builds
pub mod Collected
pub mod Asked
