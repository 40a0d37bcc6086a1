pub mod Zeros
pub mod Columns
pub mod Codes
pub mod Matrix
