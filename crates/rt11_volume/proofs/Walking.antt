-- The segments of a volume, visited one after another.
pub mod Visit
pub mod Places
pub mod Walk
pub mod Count
