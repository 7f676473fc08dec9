pub mod Encodable
