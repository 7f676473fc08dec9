pub mod Frame
pub mod Ranks
pub mod Canonical
pub mod Texts
pub mod Faults
pub mod ListFaults
pub mod Pending
pub mod inner
