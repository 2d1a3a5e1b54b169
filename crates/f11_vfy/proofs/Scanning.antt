-- What is found of a volume that was read, all of it and nothing else.
pub mod Lost
pub mod Exact
pub mod Contiguous
pub mod Reading
pub mod Verdict
