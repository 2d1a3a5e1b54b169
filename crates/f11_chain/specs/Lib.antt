pub mod FileHeaders
pub mod Calls
pub mod Windows
pub mod Laws
pub mod ChainFault
pub use Rattle.f11_index.specs.map.HeaderBlock
pub use Rattle.f11_index.specs.Headers
pub use Rattle.f11_index.specs.Table
pub use Rattle.f11_dev.specs.Disk
pub mod Opened
pub use Rattle.f11_index.specs.header as header
pub use Rattle.f11_index.specs.map as map
pub use Rattle.f11_index.specs.of_bits as bits
pub use Rattle.f11_index.specs.rad50 as rad50
pub use Rattle.f11_index.specs as index
pub use Rattle.f11_index.specs.store as store
pub use Rattle.f11_index.specs.home as home
