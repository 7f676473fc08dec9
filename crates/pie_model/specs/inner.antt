-- Definitions that no clause of `pie_cli::run` rests on: invariants, and what crates say to each other.
pub mod Moved
pub mod Present
pub mod Consistent
pub mod Still
pub mod Steps
pub mod Stack
pub mod TreeLaws
pub mod RecordLaws
pub mod CoreLaws
pub mod RunLaws
pub mod EndLaws
pub mod Ranks
