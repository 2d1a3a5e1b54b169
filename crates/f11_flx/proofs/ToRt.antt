-- Copies to an RT-11 volume.
pub mod ConvertedLemmas
pub mod CopiedLemmas
pub mod CopiesLemmas
pub mod CopyingLemmas
pub mod EndedToRtLemmas
pub mod KeptToRtLemmas
pub mod ReadingLemmas
pub mod RefusedLemmas
pub mod RtOutcomeLemmas
