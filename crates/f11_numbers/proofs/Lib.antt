pub mod OctalLemmas
pub mod RightsLemmas
