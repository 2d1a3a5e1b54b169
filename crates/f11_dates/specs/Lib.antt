-- The definitions that the contracts of dates cite.
pub mod Calendar
pub mod Dated
pub mod Files11
pub mod Laws
pub mod Moments
pub mod Rt11
pub mod Text
