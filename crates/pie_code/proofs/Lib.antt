pub mod Jumping
pub mod SlotSteps
pub mod Meeting
pub mod Following
pub mod Covering
pub mod Lowering
pub mod Judging
pub mod Exact
pub mod Labelled
pub mod Ticking
pub mod Moving
pub mod Doing
pub mod Safe
pub mod Ending
mod Examples
