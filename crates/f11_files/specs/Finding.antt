-- What is found of a file: its first header, its length, what its blocks hold, and windows over them.
pub mod First
pub mod Blocks
pub mod Length
pub mod Windows
pub mod Reached
