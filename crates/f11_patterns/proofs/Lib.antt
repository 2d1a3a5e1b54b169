-- Laws of patterns.
pub mod ChosenLemmas
pub mod HighestLemmas
pub mod LikeLemmas
pub mod SplitLemmas
pub mod VersionLemmas
pub mod PatternLemmas
pub mod PlainLemmas
pub mod Worked
pub mod NextLemmas
pub mod NamingLemmas
pub mod GivingLemmas
pub mod FittingLemmas
pub mod FreeLemmas
