pub mod Bytes
pub mod Marks
pub mod Quotes
pub mod Tokens
pub mod Words
pub mod inner
