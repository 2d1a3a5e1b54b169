-- A file that is laid out in one run of blocks.
pub mod Room
pub mod Take
pub mod Lay
pub mod Whole
