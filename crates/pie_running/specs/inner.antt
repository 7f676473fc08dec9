-- Definitions that no clause of `pie_cli::run` rests on: what the builders rely on of a task that runs.
pub mod Noted
pub mod NotedCodes
pub mod Frames
pub mod Steps
pub mod Sights
pub mod Told
pub mod Looks
pub mod Asking
pub mod Coded
pub mod Means
