pub mod FindingLemmas
pub mod FoundLemmas
