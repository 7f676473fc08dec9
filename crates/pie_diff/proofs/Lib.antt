pub mod Adding
pub mod Asking
pub mod Holding
pub mod Keeping
pub mod Removing
