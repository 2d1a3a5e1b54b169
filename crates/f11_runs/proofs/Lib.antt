pub mod AccessLemmas
pub mod ApartLemmas
pub mod EachLaws
pub mod LockedLaws
pub mod LockedLemmas
pub mod LockedSteps
pub mod SlotLists
pub mod StandingSteps
mod WorkedLemmas
