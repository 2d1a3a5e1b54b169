pub mod Actions
pub mod Asking
pub mod AsksFor
pub mod AsBefore
pub mod Carrying
pub mod Cleanly
pub mod Done
pub mod Fares
pub mod FilesPlan
pub mod Making
pub mod Plan
pub mod Plans
pub mod Seen
pub mod Sparing
pub mod Telling
pub mod Volume
pub use Rattle.f11_fcp.specs.files as files
pub use Rattle.f11_fcp.specs as fcp
