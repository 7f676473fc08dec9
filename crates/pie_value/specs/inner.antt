-- Definitions that no clause of `pie_cli::run` rests on: invariants, and what crates say to each other.
pub mod Codes
pub mod Shared
pub mod Held
pub mod Agreement
pub mod Falls
pub mod TaskCodes
pub mod TypeCodes
pub mod TypeFalls
