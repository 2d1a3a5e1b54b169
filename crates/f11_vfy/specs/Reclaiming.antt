-- What reclaiming a volume does: orphan headers, slots of no file and lost blocks become free.
pub mod Slots
pub mod Moments
pub mod Steps
pub mod Whole
