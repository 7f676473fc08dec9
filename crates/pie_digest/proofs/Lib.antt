pub mod Digesting
pub mod FuncTokens
