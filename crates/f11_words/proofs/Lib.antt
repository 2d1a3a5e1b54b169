mod BehindLemmas
mod DirectoryLemmas
mod LineLemmas
mod MetLemmas
mod ReadingLemmas
mod ToldLemmas
mod WalkLemmas
pub mod HostsLemmas
