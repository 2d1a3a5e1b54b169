pub mod Directory
pub mod Outcome
pub mod Stopping
pub mod Taking
