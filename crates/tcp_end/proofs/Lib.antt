pub mod Near
pub mod Prefixes
