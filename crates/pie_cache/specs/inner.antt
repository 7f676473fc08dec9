-- Definitions that no clause of `pie_cli::run` rests on: what crates say to each other, and the steps of this one.
pub mod Agreement
pub mod Changes
pub mod Clearing
pub mod Contents
pub mod Faults
pub mod Frame
pub mod Gated
pub mod Keeping
pub mod Places
pub mod Reading
pub mod Steps
pub mod Stored
pub mod Texts
