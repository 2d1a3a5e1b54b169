pub mod Placing
pub mod Changing
pub mod Ascending
pub mod Laws
pub mod Entry
