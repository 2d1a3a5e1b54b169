pub mod FromRt
pub mod Made
pub mod RtFiles
pub mod Texts
pub mod ToRt
pub mod BackLemmas
pub mod SmallLemmas
pub mod ThereAndBackLemmas
mod WholeLemmas
