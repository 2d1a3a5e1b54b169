pub mod LawLemmas
pub mod ReadLemmas
pub mod MissingLemmas
