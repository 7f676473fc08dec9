pub mod Agreement
pub mod Gathered
pub mod Laws
