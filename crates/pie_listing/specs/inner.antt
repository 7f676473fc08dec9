-- Definitions that no clause of `pie_cli::run` rests on.
pub mod Steps
pub mod Sources
