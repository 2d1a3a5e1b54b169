pub mod DiskLemmas
pub mod LookedLemmas
pub mod WentLemmas
pub mod ImageLemmas
pub mod FileLemmas
pub mod RunLemmas
pub mod ZerosLemmas
pub use Rattle.f11_bytes.proofs as bytes
