pub mod Again
pub mod Ones
