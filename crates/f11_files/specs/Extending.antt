-- A file that grows, from the room for it to the header that names its new blocks.
pub mod Room
pub mod Zeros
pub mod Slots
pub mod Tail
pub mod Mark
pub mod Link
pub mod Growing
pub mod Take
pub mod Header
pub mod Runs
pub mod Again
