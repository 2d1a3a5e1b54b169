pub mod Decimal
pub mod Octal
pub mod Rights
