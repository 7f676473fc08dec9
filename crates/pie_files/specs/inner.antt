-- Definitions that no clause of `pie_cli::run` rests on: invariants, and what crates say to each other.
pub mod Failures
pub mod Held
pub mod Marks
pub mod MemFiles
pub mod MemStreams
pub mod Memory
pub mod Story
pub mod StoryLaws
pub mod SureFiles
pub mod Within
