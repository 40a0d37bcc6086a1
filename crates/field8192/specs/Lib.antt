pub mod Product
pub mod Folds
pub mod Model
pub mod Laws
pub mod Ring
pub mod Powers
