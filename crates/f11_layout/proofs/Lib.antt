pub mod TextLemmas
pub mod BitmapLemmas
pub mod DirectoryLemmas
pub mod NamesLemmas
pub mod HeaderLemmas
pub mod BlockLemmas
pub mod HomeLemmas
pub mod NoHomeLemmas
