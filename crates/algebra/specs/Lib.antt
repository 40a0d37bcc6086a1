pub mod Field
pub mod Numbers
pub mod Shifts
pub mod Ring
pub mod Series
pub mod Poly
