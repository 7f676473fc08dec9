-- Definitions that no clause of `pie_cli::run` rests on: what the laws on projects and on sources say.
pub mod Projects
pub mod Sources
pub mod Told
