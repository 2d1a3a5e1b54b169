pub mod FrameLemmas
pub mod NamedLemmas
pub mod SoundLemmas
pub mod DecideLemmas
pub mod AcceptedLemmas
pub mod MemberLemmas
pub mod FileLemmas
pub mod FreshBits
pub mod FreshLemmas
pub mod ContiguousLemmas
pub mod NoteLemmas
pub use Rattle.f11_chain.proofs as chain
pub use Rattle.f11_chain.proofs.map as map
pub use Rattle.f11_chain.proofs.home as home
pub use Rattle.f11_layout.proofs as layout
