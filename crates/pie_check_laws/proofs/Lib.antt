pub mod Members
pub mod Order
pub mod Found
pub mod PathKinds
pub mod Traces
pub mod Places
pub mod Kept
pub mod Whole
