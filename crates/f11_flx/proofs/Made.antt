-- A file that a copy makes on a Files-11 volume.
pub mod ApartLemmas
pub mod CopyLemmas
pub mod EnteredLemmas
pub mod LeavesLemmas
pub mod NewLemmas
pub mod RanLemmas
pub mod SeenLemmas
pub mod StatingLemmas
pub mod TriedLemmas
