pub mod EndState
pub mod NearPosition
pub mod Sending
pub mod Streams
pub mod Taking
