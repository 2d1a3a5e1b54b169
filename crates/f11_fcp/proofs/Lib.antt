mod AccessLemmas
mod AccessedLemmas
mod AnswerLemmas
mod AppendLemmas
mod AttributeLemmas
mod ByWindowLemmas
mod DeaccessLemmas
mod DeleteLemmas
mod DirectoryLemmas
mod EnterLemmas
mod EntryLemmas
mod FindLemmas
mod GrowIndexLemmas
mod HandedLemmas
mod HandleLemmas
mod InOneRunLemmas
mod KnownLemmas
pub mod ListLemmas
mod LengthLemmas
mod LengthenLemmas
mod LookLemmas
mod MarkLemmas
mod NamedLemmas
mod NotedLemmas
mod OpenLemmas
mod ReachedLemmas
mod ReleaseLemmas
mod RemoveLemmas
mod RequestLemmas
mod RowLemmas
mod SearchLemmas
mod SlotsLemmas
mod TableLemmas
mod TruncateLemmas
mod WindowLemmas
pub use Rattle.f11_files.proofs.image_store as image_store
pub use Rattle.f11_files.proofs.writes as writes
