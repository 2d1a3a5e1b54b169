pub mod CopyFromHost
pub mod CopyTextFromHost
pub mod Filling
pub mod Pieces
pub mod Refusal
pub mod TextFilling
pub mod TextPasses
pub mod Texts
