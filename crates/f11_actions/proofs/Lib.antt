pub mod AllLemmas
pub mod ChangeLemmas
pub mod CommandLemmas
pub mod RtNamedLemmas
pub mod TriedLemmas
pub mod WouldLemmas
