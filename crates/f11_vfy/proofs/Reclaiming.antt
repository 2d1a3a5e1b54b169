-- What reclaiming a volume does.
pub mod Unreferenced
pub mod Told
pub mod Kill
pub mod Files
pub mod Dead
pub mod Storage
pub mod Order
pub mod Places
pub mod Orphans
pub mod Idle
pub mod Space
pub mod Course
pub mod Whole
pub mod Behind
pub mod Nothing
