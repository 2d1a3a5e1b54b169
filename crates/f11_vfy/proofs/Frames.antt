-- The frame of a volume: what was read of it, and how it is judged.
pub mod Earlier
pub mod Parts
pub mod Read
