pub mod Shuffle
pub mod Orders
