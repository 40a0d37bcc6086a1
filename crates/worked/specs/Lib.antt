pub mod Examples
pub mod Sheet
