-- Definitions that no clause of `pie_cli::run` rests on: invariants, and what crates say to each other.
pub mod Descents
pub mod LeastKey
pub mod Listed
pub mod Reaches
pub mod Walks
