pub mod Bytes
pub mod Parts
pub mod Rows
pub mod Additions
pub mod Entries
pub mod Outcomes
