pub mod Each
pub mod Laws
pub mod Locked
pub mod Standing
pub mod Worked
