pub mod Brackets
pub mod Refusals
pub mod inner
