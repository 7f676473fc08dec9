-- Definitions that no clause of `pie_cli::run` rests on: invariants, and what crates say to each other.
pub mod Reading
pub mod Agreement
pub mod RankCodes
pub mod Known
pub mod Ties
pub mod Offers
