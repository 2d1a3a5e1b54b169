pub mod Kept
pub mod Rooms
pub mod Blocks
pub mod Copying
pub mod Replacing
pub mod Moving
pub mod Squeezing
pub mod Telling
