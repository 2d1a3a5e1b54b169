pub mod PartLemmas
pub mod KeptLemmas
