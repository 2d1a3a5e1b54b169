-- A file that is laid out in one run of blocks.
pub mod Take
pub mod Unnamed
pub mod Lay
pub mod Mark
pub mod Held
pub mod Made
pub mod Refused
pub mod Parts
pub mod Whole
