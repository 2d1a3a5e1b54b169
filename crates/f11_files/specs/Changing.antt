-- What a file's first header says, and changes of it.
pub mod Fields
