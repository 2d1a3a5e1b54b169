-- A segment of the directory that is put together anew.
pub mod Words
pub mod Entries
pub mod Draft
pub mod Assembly
pub mod Edit
pub mod Rewrite
pub mod Overwriting
