pub mod DescentSteps
pub mod HeightFacts
pub mod LeastSteps
pub mod Meets
pub mod Removing
pub mod Turning
pub mod WalkSteps
