pub mod Names
pub mod Wanted
pub mod Answered
pub mod Signatures
