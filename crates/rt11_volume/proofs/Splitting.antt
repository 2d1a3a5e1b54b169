-- A segment that is split for a file that is made.
pub mod Walk
pub mod Sound
pub mod Store
pub mod Write
pub mod File
pub mod Disk
pub mod Create
