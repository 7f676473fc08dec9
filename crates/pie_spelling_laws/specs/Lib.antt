pub mod Same
pub mod Spans
pub mod Spelling
pub mod Standing
