pub mod MapArea
pub mod Map
pub mod MapWriting
pub mod InHand
pub mod Laws
pub use Rattle.f11_header.specs.bytes.Block
pub use Rattle.f11_header.specs.bytes.Words
pub use Rattle.f11_header.specs.Fields
pub use Rattle.f11_header.specs.MapFields
pub use Rattle.f11_header.specs.Header
pub use Rattle.f11_header.specs.Lent
pub use Rattle.f11_header.specs.Writing
pub mod HeaderBlock
pub use Rattle.f11_header.specs as header
pub use Rattle.f11_header.specs.store as store
pub use Rattle.f11_header.specs.rad50 as rad50
