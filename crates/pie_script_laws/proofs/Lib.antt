pub mod Scripting
pub mod Playing
pub mod Scanning
