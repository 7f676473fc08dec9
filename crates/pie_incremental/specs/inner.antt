-- Definitions that no clause of `pie_cli::run` rests on: invariants, and what crates say to each other.
pub mod Asked
pub mod Bases
pub mod Built
pub mod Causes
pub mod Changes
pub mod Clean
pub mod Cleaned
pub mod Crashed
pub mod Digested
pub mod Evaluated
pub mod Joined
pub mod Marked
pub mod Parts
pub mod Plans
pub mod Ran
pub mod Updated
pub mod Refused
