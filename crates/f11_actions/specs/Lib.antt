-- The definitions of what is done to files by their names.
pub mod Changes
pub mod Chosen
pub mod Command
pub mod Undone
pub mod Deletion
pub mod Folder
pub mod Lines
pub mod Making
pub mod Meant
pub mod Named
pub mod Plans
pub mod Protection
pub mod RtNamed
pub mod Taking
pub mod Tried
pub mod Would
