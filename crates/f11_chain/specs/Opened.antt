-- Words of crates below, for the attributes of src.
pub use Rattle.f11_index.specs.map.HeaderBlock.{blocks_named}
pub use Rattle.f11_index.specs.map.HeaderBlock.{runs_named}
