-- A new file, and the slot that it takes.
pub mod FreeSlot
pub mod Create
pub mod Make
