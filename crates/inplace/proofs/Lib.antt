pub mod CarriedSums
pub mod Changed
pub mod Faultless
pub mod Fitting
pub mod Fronts
