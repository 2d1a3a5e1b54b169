pub mod HomeLemmas
pub mod SealLemmas
pub use Rattle.f11_bits.proofs as bits
