pub mod Causes
pub mod Objects
pub mod Order
pub mod Refused
pub mod Texts
pub mod Verdicts
pub mod inner
