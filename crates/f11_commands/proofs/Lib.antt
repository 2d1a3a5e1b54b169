pub mod LineLemmas
pub mod VolumeLemmas
mod HandedLemmas
mod AllLemmas
mod AnyVolumeLemmas
mod SizeLemmas
mod LsLemmas
mod LookingLemmas
mod GetLemmas
mod RunLemmas
mod UpdateLemmas
mod BrokenLemmas
pub mod CopyLemmas
pub mod CountingLemmas
mod NamedLemmas
mod OthersLemmas
mod ReadOnlyLemmas
mod DirectoryLemmas
mod TakingOutLemmas
mod TakingTextLemmas
mod StoppingLemmas
mod LeavingLemmas
mod WholeLemmas
mod MomentsLemmas
mod PutSlotsLemmas
mod PutUnheldLemmas
mod HeldPlanLemmas
mod MadeLemmas
mod PutLemmas
mod RtAnyLemmas
mod RtTakingLemmas
mod RtTextLemmas
mod RtFillLemmas
mod RtPutLemmas
pub mod RtSqueezeLemmas
mod RtChangeLemmas
pub use Rattle.f11_serving.proofs as serving
pub use Rattle.f11_flx.proofs as flx
