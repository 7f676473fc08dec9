-- Definitions that no clause of `pie_cli::run` rests on: what functions say to each other.
pub mod Clean
pub mod Crashes
pub mod News
pub mod Said
