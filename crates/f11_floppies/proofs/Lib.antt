pub mod PlaceLemmas
pub mod CoverLemmas
pub mod ArrangeLemmas
pub mod BlockLemmas
pub mod FloppyLemmas
