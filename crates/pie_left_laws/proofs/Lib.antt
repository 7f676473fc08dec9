pub mod Provides
pub mod Putting
pub mod Changing
pub mod Holding
pub mod Going
pub mod Settling
pub mod Resting
