-- Definitions that no clause of `pie_cli::run` rests on: the commands as `clap` knows them.
pub mod Commands
pub mod Grammar
