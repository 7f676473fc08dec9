pub mod Missing
pub mod Living
pub mod Failing
pub mod Storing
pub mod Filing
