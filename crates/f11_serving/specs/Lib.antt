-- The definitions of scripts that are served.
pub mod Served
pub mod Serving
pub mod Scripts
pub mod Answering
pub mod Laws
pub use Rattle.f11_fcp.specs.files as files
pub use Rattle.f11_fcp.specs as fcp
pub use Rattle.f11_fcp.specs.vfy as vfy
pub use Rattle.f11_fcp.specs.writes as writes
