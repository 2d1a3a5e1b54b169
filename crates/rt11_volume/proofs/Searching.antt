-- A file that is looked for in a directory.
pub mod Looking
pub mod File
pub mod Locating
