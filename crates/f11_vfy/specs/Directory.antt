-- The directories of a volume: what is read and what is noted of them.
pub mod Blank
pub mod Reading
pub mod Flaws
pub mod Gathered
pub mod Notes
