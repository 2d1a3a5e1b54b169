pub mod BlockLaws
pub mod DirectoryLaws
pub mod FateLaws
pub mod FileLaws
pub mod Frees
pub mod Growth
pub mod HeldLaws
pub mod LagLaws
pub mod NoLags
pub mod ProgressLaws
pub mod RecordLemmas
pub mod ReleaseLaws
pub mod RemovalLaws
pub mod SlotLemmas
pub mod StepFates
pub mod StepLaws
pub mod StoreLemmas
mod WorkedCostLemmas
mod WorkedLagLemmas
mod WorkedRunLemmas
mod WorkedLemmas
pub mod RangeLemmas
pub mod TakenSlotLemmas
pub mod PieceLemmas
pub mod PieceLagLemmas
pub mod AddedSlotLemmas
pub mod IndexPieceLagLemmas
pub mod Respects
pub mod SlotsFirst
pub mod StepLags
pub mod GrowsLemmas
pub mod GrowsLagLemmas
pub mod ContiguousLaws
pub mod LayingLemmas
pub use Rattle.f11_bytes.proofs as bytes
