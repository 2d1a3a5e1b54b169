-- The definitions of the script language.
pub mod Reading
pub mod Fields
pub mod Verbs
pub mod Requests
pub mod Input
pub mod Lines
pub mod Asking
pub mod Pieces
pub mod Answers
pub mod Spelling
