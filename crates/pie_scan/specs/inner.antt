-- Definitions that no clause of `pie_cli::run` rests on: what crates say to each other, and the steps of this one.
pub mod Codes
pub mod Agreement
pub mod Merge
pub mod Noting
pub mod Faults
