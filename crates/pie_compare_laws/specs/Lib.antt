pub mod Settled
pub mod Agreeing
