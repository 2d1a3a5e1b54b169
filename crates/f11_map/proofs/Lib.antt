pub mod MapLemmas
pub mod RunLemmas
pub mod PointerLemmas
pub mod FewestLemmas
pub mod InHandLemmas
pub use Rattle.f11_header.proofs as header
pub use Rattle.f11_header.proofs.store as store
