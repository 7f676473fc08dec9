pub mod Requiring
pub mod inner
