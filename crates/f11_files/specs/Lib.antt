pub mod Confined
pub mod Structure
pub mod Open
pub mod Answers
pub mod Finding
pub mod Operations
pub mod Calls
pub mod Changing
pub mod Create
pub mod Opening
pub mod Removing
pub mod Extending
pub mod LayingOut
pub mod GrowingIndex
pub mod Rows
pub mod Overall
pub use Rattle.f11_vfy.specs as vfy
pub use Rattle.f11_image_store.specs as image_store
pub use Rattle.f11_volume.specs as volume
pub use Rattle.f11_writes.specs as writes
pub use Rattle.f11_index.specs as index
