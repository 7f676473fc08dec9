-- Definitions that no clause of `pie_cli::run` rests on: what single lines say, and what a script has taken so far.
pub mod LineReads
pub mod Taking
pub mod Under
