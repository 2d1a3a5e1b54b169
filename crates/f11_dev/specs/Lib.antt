pub mod Image
pub mod Disk
pub mod Looked
pub mod Run
pub mod Zeros
pub mod Went
pub mod Outcomes
pub mod Memory
pub mod Written
mod FileDisk
pub mod Fault
pub mod FileImage
pub mod Fuse
pub mod FailOnce
pub mod Liar
pub mod Laws
pub use Rattle.f11_bytes.specs as bytes
