-- Definitions that no clause of `pie_cli::run` rests on.
pub mod Drafts
pub mod Parts
