pub mod Linear
pub mod Roots
pub mod Quotients
pub mod Support
pub mod Matrices
