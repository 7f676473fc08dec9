-- Definitions that no clause of `pie_cli::run` rests on: invariants, and what crates say to each other.
pub mod Codes
pub mod RecordCodes
pub mod Parts
pub mod Agreement
pub mod Names
pub mod Records
