pub mod Accesses
pub mod Causes
pub mod Changes
pub mod Cost
pub mod Directory
pub mod File
pub mod Headroom
pub mod Ident
pub mod Lags
pub mod Laws
pub mod Moments
pub mod Refusal
pub mod Release
pub mod Rights
pub mod Run
pub mod Step
pub mod Store
pub mod Text
pub mod Worked
pub mod WorkedCosts
pub mod WorkedLags
pub mod WorkedRuns
pub mod Pieces
pub mod SlotsFirst
pub mod Contiguous
pub use Rattle.f11_rad50.specs as rad50
pub use Rattle.f11_bytes.specs as bytes
