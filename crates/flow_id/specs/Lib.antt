pub mod Flows
pub mod Hashes
pub mod Keys
pub mod Laws
pub mod Ports
pub mod Words
