-- What is kept of a volume's headers, blocks and slots once each was read.
pub mod Bits
pub mod Count
pub mod Extent
pub mod Slot
pub mod Free
pub mod Headers
pub mod Extensions
