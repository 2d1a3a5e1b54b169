pub mod IndexFile
pub mod Table
pub mod Headers
pub mod Sound
pub mod Slots
pub mod Kept
pub mod Walk
pub mod Calls
pub mod HeaderLaws
pub mod ChangeLaws
pub mod Laws
pub mod Growth
pub mod IndexFault
pub use Rattle.f11_dev.specs.Image
pub use Rattle.f11_dev.specs.Disk
pub use Rattle.f11_dev.specs.Looked
pub use Rattle.f11_dev.specs.Went
pub use Rattle.f11_home.specs.Home
pub use Rattle.f11_map.specs.header as header
pub use Rattle.f11_map.specs.store as store
pub use Rattle.f11_map.specs as map
pub use Rattle.f11_home.specs.bits as of_bits
pub use Rattle.f11_map.specs.rad50 as rad50
pub use Rattle.f11_home.specs as home
