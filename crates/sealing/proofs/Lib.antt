pub mod Checks
pub mod Tickets
