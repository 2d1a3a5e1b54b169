-- The directories of a volume: what is read and what is noted of them.
pub mod Blank
pub mod Walk
pub mod Course
pub mod Taking
pub mod Flaws
pub mod Repeats
pub mod Records
pub mod Gathered
pub mod Judging
