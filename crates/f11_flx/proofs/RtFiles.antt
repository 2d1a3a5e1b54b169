-- The file of an RT-11 volume that is read or made.
pub mod FrontLemmas
pub mod RtBlockLemmas
pub mod RtCopyLemmas
pub mod RtSourceLemmas
pub mod TargetLemmas
