pub mod Values
pub mod States
pub mod Squares
pub mod OddPart
pub mod Inverses
pub mod Located
