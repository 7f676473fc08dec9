pub mod TakingLemmas
pub mod Splitting
pub mod LineLemmas
pub mod ReadingLemmas
