pub mod Words
pub mod World
pub mod Rows
pub mod Clean
pub mod Answers
pub mod inner
