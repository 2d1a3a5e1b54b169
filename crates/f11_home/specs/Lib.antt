pub mod HomeBlock
pub mod Home
pub mod HomeFault
pub mod Laws
pub use Rattle.f11_dev.specs.Image
pub use Rattle.f11_dev.specs.Disk
pub use Rattle.f11_dev.specs.Looked
pub use Rattle.f11_bits.specs as bits
