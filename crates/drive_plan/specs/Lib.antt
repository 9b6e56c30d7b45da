pub mod Generator
pub mod Streams
