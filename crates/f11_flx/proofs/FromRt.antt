-- Copies from an RT-11 volume.
pub mod EndedLemmas
pub mod FaredLemmas
pub mod FromRtLemmas
pub mod FromVolumeLemmas
pub mod KeptLemmas
pub mod LooksLemmas
pub mod MadeLemmas
pub mod MakingLemmas
pub mod NotMadeLemmas
pub mod PassLemmas
pub mod PassedLemmas
pub mod PlanLemmas
pub mod SpentLemmas
pub mod UndoneLemmas
