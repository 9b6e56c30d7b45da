pub mod Changes
pub mod Counters
pub mod Files
pub mod Shelf
