pub mod Entries
pub mod Reading
pub mod Copying
pub mod Copies
pub mod Fitting
pub mod Laws
