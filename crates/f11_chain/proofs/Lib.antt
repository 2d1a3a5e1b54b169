pub mod AlongLemmas
pub mod ChangeLemmas
pub mod FileOneLemmas
pub mod ReachedLemmas
pub mod StepLemmas
pub mod WindowLemmas
pub use Rattle.f11_index.proofs.map as map
pub use Rattle.f11_index.proofs as index
pub use Rattle.f11_index.proofs.home as home
