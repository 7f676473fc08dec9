pub mod Earlier
pub mod Keeping
pub mod Moving
pub mod Needing
pub mod Noting
pub mod Placing
pub mod Rowing
