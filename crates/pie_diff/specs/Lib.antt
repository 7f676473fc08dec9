pub mod Hashes
pub mod Known
pub mod Removals
pub mod inner
