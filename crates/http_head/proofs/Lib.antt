pub mod CaseLemmas
pub mod FoundLemmas
pub mod LineLemmas
pub mod PieceLemmas
pub mod ReadingLemmas
pub mod SpanLemmas
pub mod StaysLemmas
pub mod TrueLemmas
