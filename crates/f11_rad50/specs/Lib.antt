-- The definitions that the contracts of Radix-50 and of file names cite.
pub mod Radix50
pub mod Name
pub mod Coded
pub mod Buffer
