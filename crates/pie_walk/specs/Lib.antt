pub mod Marks
pub mod States
pub mod Standing
pub mod Counts
pub mod Callers
pub mod Turns
pub mod inner
