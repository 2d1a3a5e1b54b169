pub mod MapFields
pub mod Fields
pub mod Header
pub mod HeaderFault
pub mod Writing
pub mod Laws
pub mod Lent
pub mod Lending
pub use Rattle.f11_store.specs.bytes.Block
pub use Rattle.f11_store.specs.bytes.Words
pub use Rattle.f11_store.specs as store
pub use Rattle.f11_store.specs.bytes as bytes
pub use Rattle.f11_store.specs.rad50 as rad50
