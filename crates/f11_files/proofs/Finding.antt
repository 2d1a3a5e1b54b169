-- A file's first header, where its blocks are, and windows over them.
pub mod First
pub mod Named
pub mod Held
pub mod Locate
pub mod Reached
pub mod Windows
