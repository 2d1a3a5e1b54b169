-- What is looked for in a directory, and what was found.
pub mod Search
pub mod Looking
pub mod Locating
