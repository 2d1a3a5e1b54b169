pub mod LayLemmas
pub mod Surveying
pub mod ChainLemmas
pub mod FollowingLemmas
pub mod Scanning
pub mod Directory
pub mod Frames
pub mod Reclaiming
