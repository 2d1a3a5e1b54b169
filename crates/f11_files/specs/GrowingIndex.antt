-- The index file, which grows: its new blocks are slots.
pub mod Runs
pub mod Headroom
pub mod First
