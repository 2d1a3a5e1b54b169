-- Laws of Radix-50 and of names.
pub mod Codes
pub mod Words
pub mod Texts
pub mod Places
pub mod SystemFiles
pub mod Spelled
pub mod Padded
