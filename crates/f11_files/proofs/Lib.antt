pub mod Opening
pub mod AnswerLemmas
pub mod Bounded
pub mod Finding
pub mod WriteLemmas
pub mod Changing
pub mod Creating
pub mod Confining
pub mod Removing
pub mod Extending
pub mod LayingOut
pub mod GrowingIndex
pub mod Rows
pub mod Readied
pub mod Overall
pub mod Behind
pub mod Lost
pub use Rattle.f11_image_store.proofs as image_store
pub use Rattle.f11_volume.proofs as volume
pub use Rattle.f11_writes.proofs as writes
