-- Definitions that no public clause names.
pub mod Scans
pub mod Steps
pub mod Sweeping
