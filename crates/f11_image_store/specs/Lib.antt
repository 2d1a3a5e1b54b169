pub mod StoreOf
pub mod StoreLaws
pub mod SlotLaws
pub mod FileLaws
pub mod Confines
pub mod ConfinesLaws
pub mod Allocation
pub mod AllocationLaws
pub mod FieldLaws
pub mod NewFileLaws
pub mod FreshStore
pub mod ExtensionLaws
pub mod Freeing
pub mod FreeingLaws
pub use Rattle.f11_writes.specs as writes
