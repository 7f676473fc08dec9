pub mod Alone
pub mod Index
pub mod Numbers
pub mod Rows
pub mod Uses
