pub mod Turns
pub mod Values
pub mod Writing
pub mod Steps
pub mod Codecs
pub mod DepCodec
pub mod RecordCodec
pub mod Naming
mod Examples
