pub mod Digested
pub mod Fronts
pub mod Looking
pub mod Refusals
pub mod inner
