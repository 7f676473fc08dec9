pub mod Building
pub mod Keeping
pub mod Leaving
pub mod Refusing
pub mod Tracing
