pub mod Directory
pub mod Faults
pub mod Images
pub mod Reading
pub mod Streams
pub mod Calls
pub mod inner
