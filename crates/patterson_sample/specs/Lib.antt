pub mod Four
pub mod Sample
