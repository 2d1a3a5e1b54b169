-- Files that are deleted or cut, and the headers and blocks that go.
pub mod Loss
pub mod Freeing
pub mod Giving
pub mod FreeSlot
pub mod Drop
pub mod Behind
pub mod Dropping
pub mod Gone
pub mod Kept
pub mod Kill
pub mod Cut
pub mod Parts
