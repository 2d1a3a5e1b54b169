-- Lemmas of scripts that are served.
pub mod ServedLemmas
pub mod PartLemmas
pub mod RunLemmas
pub mod ScriptLemmas
pub mod VolumeLemmas
pub mod AnsweringLemmas
pub use Rattle.f11_fcp.proofs.writes as writes
