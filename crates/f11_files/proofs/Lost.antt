-- What calls leave of the lost blocks of a volume.
pub mod Stay
pub mod Beside
pub mod Calls
