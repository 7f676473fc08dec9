-- Definitions that no clause of `run` rests on: what its parts say of how they end.
pub mod ByList
pub mod Played
pub mod Unread
