pub mod AllocationLemmas
pub mod AllocationLawLemmas
pub mod StoreLemmas
pub mod SlotLemmas
pub mod InstanceLemmas
pub mod FieldLemmas
pub mod FileLemmas
pub mod GrowthLemmas
pub mod NewFileLemmas
pub mod FreshStoreLemmas
pub mod StepLemmas
pub mod ExtensionLemmas
pub mod SparedLemmas
pub mod FreeingLemmas
pub mod ConfinesLemmas
pub mod KeptBlocksLemmas
pub mod PointerLemmas
pub use Rattle.f11_writes.proofs as writes
