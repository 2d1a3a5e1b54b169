-- A volume that is opened, and what is kept of it.
pub mod Kept
pub mod Apart
pub mod Opens
pub mod Values
pub mod Space
