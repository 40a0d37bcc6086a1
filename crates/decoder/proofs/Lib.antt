pub mod Numbers
pub mod Lists
pub mod Vectors
pub mod Sums
pub mod Bridge
pub mod Decided
pub mod Once
