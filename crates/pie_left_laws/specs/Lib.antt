pub mod Accepted
pub mod Placed
pub mod Reported
pub mod Held
pub mod Bases
