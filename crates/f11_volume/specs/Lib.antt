pub mod Space
pub mod Volume
pub mod Contents
pub mod Faults
pub mod Notes
pub mod Verdict
pub mod Sound
pub mod FileLaws
pub mod Earlier
pub mod Laws
pub mod Fresh
pub mod NoteLaws
pub use Rattle.f11_chain.specs as chain
pub use Rattle.f11_chain.specs.map as map
pub use Rattle.f11_chain.specs.header as header
pub use Rattle.f11_chain.specs.store as store
pub use Rattle.f11_chain.specs.home as home
pub use Rattle.f11_layout.specs as layout
