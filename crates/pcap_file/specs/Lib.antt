pub mod Capture
pub mod Frames
pub mod Ethernet
pub mod Written
