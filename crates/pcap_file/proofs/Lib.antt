pub mod Again
pub mod Walks
