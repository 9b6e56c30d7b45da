pub mod Causes
pub mod Faults
pub mod Fields
pub mod Text
