-- Definitions that no clause of `pie_cli::run` rests on: what reading an input answers.
pub mod Answers
pub mod Reading
