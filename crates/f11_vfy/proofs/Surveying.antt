-- What is kept of a volume's headers, blocks and slots once each was read.
pub mod Bits
pub mod Sums
pub mod Tally
pub mod Words
pub mod Free
pub mod FreeWords
pub mod Slots
pub mod Times
pub mod Table
pub mod Pointers
pub mod Extents
pub mod Headers
pub mod Extensions
pub mod Cells
pub mod Common
pub mod Over
