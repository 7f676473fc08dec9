pub mod Tables
pub mod StepLemmas
pub mod EndLemmas
pub mod RootLemmas
pub mod ContentLemmas
pub mod Ordered
pub mod Heights
pub mod RowLemmas
pub mod CheckLemmas
pub mod FileLemmas
mod Examples
