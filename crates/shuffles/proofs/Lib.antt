pub mod Shuffles
pub mod Orders
pub mod Marks
pub mod Permuted
