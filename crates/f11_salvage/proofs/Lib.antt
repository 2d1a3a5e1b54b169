pub mod SizeLemmas
pub mod LineLemmas
pub mod HeadLemmas
