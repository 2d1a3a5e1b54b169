-- The index file, which grows: its new blocks are slots.
pub mod ZeroSlots
pub mod SlotGrowth
pub mod IndexFile
pub mod Room
pub mod GrowIndex
pub mod Grow
pub mod First
pub mod Ready
