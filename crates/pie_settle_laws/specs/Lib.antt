pub mod Known
pub mod Settled
pub mod Sweeps
pub mod Orders
pub mod Ends
pub mod Going
pub mod GoingLaws
pub mod Shown
