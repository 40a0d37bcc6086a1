pub mod Fields
pub mod Secret
pub mod Sound
pub mod Seeds
pub mod Calls
