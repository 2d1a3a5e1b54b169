-- Which blocks the steps of a call write.
pub mod SlotParts
pub mod Confines
pub mod InOrder
pub mod Parts
