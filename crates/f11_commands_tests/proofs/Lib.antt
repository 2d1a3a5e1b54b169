-- Lemmas of consumers.
pub mod CountLemmas
pub mod ServedLemmas
