pub mod Accesses
pub mod Directories
pub mod Entries
pub mod Handles
pub mod InOneRun
pub mod Laws
pub mod Lengthening
pub mod Lengths
pub mod Lists
pub mod Mounting
pub mod Places
pub mod Rights
pub mod Serving
pub mod Windows
pub mod ByWindow
pub use Rattle.f11_files.specs as files
pub use Rattle.f11_files.specs.image_store as image_store
pub use Rattle.f11_files.specs.volume as of_volume
pub use Rattle.f11_files.specs.writes as writes
pub use Rattle.f11_chain.specs as chain
pub use Rattle.f11_files.specs.index as index
pub use Rattle.f11_files.specs.vfy as vfy
