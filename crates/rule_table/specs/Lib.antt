pub mod Forms
pub mod Found
pub mod Hash
pub mod Index
pub mod Laws
pub mod Matching
pub mod Setups
