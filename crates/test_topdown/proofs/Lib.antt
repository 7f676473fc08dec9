pub mod Swapping
