pub mod Operators
pub mod Domain
pub mod Effects
pub mod inner
