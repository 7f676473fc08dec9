pub mod Ascending
pub mod Digesting
pub mod Finding
pub mod Lengths
pub mod Lookings
pub mod Once
pub mod OneFront
pub mod Told
