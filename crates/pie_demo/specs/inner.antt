-- Definitions that no clause of `pie_cli::run` rests on: what the parts of a round say to each other.
pub mod Steps
