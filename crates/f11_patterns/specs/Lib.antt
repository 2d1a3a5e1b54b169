-- The definitions that the contracts of patterns cite.
pub mod Chosen
pub mod Fitting
pub mod Giving
pub mod Turns
pub mod Like
pub mod Meant
pub mod Naming
pub mod Next
pub mod Parts
pub mod Lent
pub mod Split
pub mod Pattern
pub mod Laws
