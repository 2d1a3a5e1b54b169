pub mod Block
pub mod Words
pub mod Part
pub mod Bits
pub mod Octal
pub mod Trailing
