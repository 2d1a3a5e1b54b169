pub mod BitLemmas
pub mod BlockLemmas
pub mod ChainLemmas
pub mod FollowLemmas
pub mod ForLemmas
pub mod FreeLemmas
pub mod GrowLemmas
pub mod HeadersLemmas
pub mod InUseLemmas
pub mod LawLemmas
pub mod LoadLemmas
pub mod NextLemmas
pub mod PlaceLemmas
pub mod SameLemmas
pub mod SegmentLemmas
pub mod StayLemmas
pub mod UpLemmas
pub mod UsedLemmas
pub mod WalkLemmas
pub use Rattle.f11_map.proofs as map
pub use Rattle.f11_home.proofs as home
