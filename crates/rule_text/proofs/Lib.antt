pub mod AddressLemmas
pub mod ApartLemmas
pub mod MadeLemmas
pub mod SetupLemmas
pub mod StepLemmas
pub mod ToldLemmas
pub mod TomlLemmas
