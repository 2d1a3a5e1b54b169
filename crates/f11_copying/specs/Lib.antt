pub mod Courses
pub mod Telling
pub mod Carrying
pub mod Copies
pub mod Made
pub mod Moved
pub mod OldFile
pub mod OldHeader
