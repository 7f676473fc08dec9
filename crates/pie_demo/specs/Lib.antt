pub mod Copies
pub mod Draws
pub mod Going
pub mod Rounds
pub mod Sources
pub mod inner
