-- Definitions that no clause of `pie_cli::run` rests on: what a builder may rely on of the tasks that were taken.
pub mod Standing
pub mod Weights
pub mod Ended
pub mod Turns
