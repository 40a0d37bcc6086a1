pub mod Sha512
pub mod Takes
pub mod Blocks
pub mod Pushes
