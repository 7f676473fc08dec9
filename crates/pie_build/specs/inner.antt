-- Definitions that no clause of `pie_cli::run` rests on: invariants, and what crates say to each other.
pub mod Asked
pub mod Plans
pub mod Projects
pub mod Rebuilt
pub mod Reported
