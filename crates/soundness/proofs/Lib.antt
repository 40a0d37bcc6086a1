pub mod Counting
pub mod Rowwise
pub mod Answering
pub mod Numbers
pub mod Chains
pub mod Points
pub mod Sound
pub mod Searches
