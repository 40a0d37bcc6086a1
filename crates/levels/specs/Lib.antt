pub mod Names
pub mod Table
pub mod Faults
pub mod Work
pub mod Rows
