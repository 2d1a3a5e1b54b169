-- What is found of a volume that was read.
pub mod Scans
pub mod Contiguous
pub mod Parts
pub mod Reading
pub mod Kept
