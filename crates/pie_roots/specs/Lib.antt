pub mod Kinds
pub mod Lines
pub mod RootLists
pub mod Roots
pub mod Written
pub mod inner
