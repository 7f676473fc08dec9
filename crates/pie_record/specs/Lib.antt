pub mod Kinds
pub mod Canonical
pub mod Reading
pub mod inner
