-- A directory of the plain store, seen block by block and changed by writes of blocks.
pub mod Costs
pub mod Entering
pub mod Looks
pub mod Seen
pub mod Writing
pub use Rattle.f11_dir.specs as dir
