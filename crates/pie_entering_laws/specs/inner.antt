-- Definitions that no clause of `pie_cli::run` rests on: roots, what is of the language, and the law.
pub mod Laws
