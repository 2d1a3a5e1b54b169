-- What is wrong with an RT-11 volume, what is worth a note, and how it is found.
pub mod Faults
pub mod Notes
pub mod Names
pub mod Verdict
pub mod Scans
