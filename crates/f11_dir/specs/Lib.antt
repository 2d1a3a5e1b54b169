-- The records of one block, and the definitions of a record that they stand on.
pub mod Records
pub use Rattle.f11_store.specs.rad50.Name
pub use Rattle.f11_store.specs.File
pub use Rattle.f11_store.specs.Directory
