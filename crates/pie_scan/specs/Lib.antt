pub mod Entries
pub mod Texts
pub mod Scanned
pub mod Changes
pub mod Covering
pub mod Frame
pub mod Reading
pub mod inner
