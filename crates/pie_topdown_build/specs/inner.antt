-- Definitions that no clause of `pie_cli::run` rests on: what functions say to each other.
pub mod Anew
pub mod Bases
pub mod Clean
pub mod Cleaned
pub mod Complete
pub mod Crashes
pub mod Filed
pub mod News
pub mod Offered
pub mod Ran
pub mod Records
pub mod Reused
pub mod Said
pub mod Stored
