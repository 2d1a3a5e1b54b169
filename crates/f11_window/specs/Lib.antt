pub mod Part
pub mod PartLaws
pub mod Laws
pub mod Window
