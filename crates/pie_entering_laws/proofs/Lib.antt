pub mod Alike
pub mod Answering
pub mod Following
pub mod Requiring
pub mod Entered
pub mod Known
