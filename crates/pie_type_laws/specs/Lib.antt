pub mod Fitting
pub mod NeverStuck
