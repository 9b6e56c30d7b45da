pub mod IndexLemmas
pub mod MatchLemmas
