-- A header or a block of a file that is written.
pub mod Block
pub mod Alter
pub mod ByWindow
