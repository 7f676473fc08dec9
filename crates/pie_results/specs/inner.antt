-- Definitions that no clause of `pie_cli::run` rests on: invariants, and what crates say to each other.
pub mod Failures
pub mod Files
pub mod Live
pub mod Made
pub mod Ordered
pub mod Outputs
pub mod Stored
