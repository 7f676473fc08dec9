pub mod Written
pub mod Steps
pub mod Runs
pub mod Roots
pub mod Script
pub mod Kinds
