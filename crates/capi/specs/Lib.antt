pub mod Codes
pub mod Kinds
