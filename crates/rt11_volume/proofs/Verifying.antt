-- What is wrong with an RT-11 volume and what is worth a note is found, all of it and nothing else.
pub mod Tests
pub mod Names
pub mod Exact
pub mod Verdict
pub mod Sound
pub mod Keep
