mod Alike
pub mod Asks
mod Candidates
pub mod Changes
pub mod Ends
mod Extended
mod Knowing
mod Lines
mod Numbers
pub mod Openings
pub mod Origins
pub mod Sames
