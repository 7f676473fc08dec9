-- Definitions that no clause of `pie_cli::run` rests on: what one step says.
pub mod Goes
