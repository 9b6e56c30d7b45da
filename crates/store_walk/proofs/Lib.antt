pub mod Causes
pub mod Late
pub mod Origins
pub mod Runs
pub mod Saids
