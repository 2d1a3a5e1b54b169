pub mod WordLemmas
pub mod PartLemmas
pub mod PartMemory
pub mod OctalLemmas
pub mod ResultLemmas
pub mod TrailingLemmas
