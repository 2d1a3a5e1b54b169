pub mod CourseLemmas
pub mod CarryLemmas
pub mod MadeLemmas
pub mod MovedLemmas
pub mod OldLemmas
pub mod PartLemmas
pub mod SuchLemmas
pub mod TidyLemmas
