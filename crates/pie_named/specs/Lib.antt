pub mod Asking
pub mod inner
