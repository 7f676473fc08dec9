pub mod Findings
pub mod Recorded
pub mod Verdicts
