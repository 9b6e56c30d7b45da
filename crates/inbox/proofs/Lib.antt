pub mod ItemLemmas
pub mod Steps
pub mod Views
