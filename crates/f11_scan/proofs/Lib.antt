pub mod KeepLemmas
pub mod UseLemmas
pub mod ListLemmas
pub mod SearchLemmas
pub mod CountLemmas
pub use Rattle.f11_header.proofs as header
pub use Rattle.f11_dev.proofs as dev
