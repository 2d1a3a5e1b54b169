-- The definitions that the contracts of texts cite.
pub mod Crs
pub mod FromHost
pub mod Laws
pub mod Text
pub mod ToHost
