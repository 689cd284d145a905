pub mod ReadLemmas
pub mod WalkLemmas
pub mod TakenLemmas
