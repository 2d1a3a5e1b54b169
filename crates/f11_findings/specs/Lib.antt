pub mod Finding
pub mod Found
