-- Definitions that no clause of `pie_cli::run` rests on: invariants, and what crates say to each other.
pub mod Stored
pub mod Shown
pub mod Noted
pub mod Callees
pub mod Blocks
pub mod WrittenRules
pub mod Rules
pub mod WholeRules
pub mod Law
