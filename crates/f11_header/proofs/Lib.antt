pub mod AreaLemmas
pub mod HeaderFacts
pub mod FieldLemmas
pub mod BlankLemmas
pub use Rattle.f11_store.proofs as store
pub use Rattle.f11_store.proofs.bytes as bytes
