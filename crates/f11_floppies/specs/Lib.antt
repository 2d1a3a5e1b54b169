pub mod Order
pub mod Arrange
pub mod Laws
pub mod Moments
pub mod Floppy
