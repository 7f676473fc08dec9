-- Definitions that no clause of `pie_cli::run` rests on: invariants, and what crates say to each other.
pub mod Above
pub mod Known
pub mod Stamps
pub mod Names
pub mod Stamped
