-- A segment of the directory that is put together anew, or split, or of which some words are written.
pub mod Draft
pub mod Split
pub mod Overwriting
