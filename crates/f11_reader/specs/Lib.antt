pub mod Reading
pub mod Missing
pub mod Steps
pub mod Laws
pub use Rattle.f11_chain.specs.Calls
pub use Rattle.f11_volume.specs.Contents
pub use Rattle.f11_volume.specs.Notes
