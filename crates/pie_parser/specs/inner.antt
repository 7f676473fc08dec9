-- Definitions that no clause of `pie_cli::run` rests on: invariants, and what crates say to each other.
pub mod Codes
pub mod FunctionCodes
pub mod Pieces
pub mod TreeFalls
pub mod Turns
pub mod TypeCodes
pub mod TypeFalls
pub mod Whole
