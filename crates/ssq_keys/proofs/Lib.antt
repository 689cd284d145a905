pub mod ReadLemmas
pub mod Timing
