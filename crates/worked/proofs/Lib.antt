pub mod Products
pub mod Computed
pub mod Fields
