pub mod Records
pub mod LongLine
pub mod Facts
pub mod Users
pub mod DirectoryNames
pub mod Lines
pub mod Listing
pub mod Holding
pub mod Names
pub mod AllDirectories
pub mod AllFiles
pub mod Contents
pub mod Steps
pub mod GoingOver
pub mod Walking
pub mod Laws
pub use Rattle.f11_image_store.specs as image_store
pub use Rattle.f11_chain.specs as chain
pub use Rattle.f11_volume.specs.map as map
