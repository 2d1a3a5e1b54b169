pub mod CostLemmas
pub mod EnteringLemmas
pub mod FateLemmas
pub mod GrownLemmas
pub mod LookLemmas
pub mod SeenLemmas
pub mod WritingLemmas
