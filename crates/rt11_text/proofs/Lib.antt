-- Laws of texts.
pub mod CrsLemmas
pub mod FromHostLemmas
pub mod TextLemmas
