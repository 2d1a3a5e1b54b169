pub mod Uses
pub mod Scan
pub mod Search
pub mod Laws
pub use Rattle.f11_header.specs as header
pub use Rattle.f11_dev.specs as dev
