-- Texts, lines and records, and what turns the one into the other.
pub mod ConvertLemmas
pub mod CrLemmas
pub mod EndLemmas
pub mod GiveLemmas
pub mod LineLemmas
pub mod PourLemmas
pub mod PutLemmas
pub mod ReadLemmas
pub mod RecordLemmas
pub mod SizeLemmas
pub mod TextLemmas
pub mod WalkLemmas
pub mod WritingLemmas
