pub mod Stacks
pub mod Steps
pub mod Machines
pub mod ConfigCodes
