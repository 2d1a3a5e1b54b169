pub mod FillLemmas
pub mod HostLemmas
pub mod HostTextLemmas
pub mod PieceLemmas
pub mod TextFillLemmas
pub mod TextLemmas
