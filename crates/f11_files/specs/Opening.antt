-- Opening an accepted volume, and giving it up.
pub mod Opens
pub mod Opened
