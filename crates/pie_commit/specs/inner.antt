-- Definitions that no clause of `pie_cli::run` rests on: invariants, and what crates say to each other.
pub mod Ends
pub mod Plans
pub mod Steps
