use Rattle.std.proofs.Common.{◌≡◌, ◌⊎◌, ◌<◌, ◌≤◌, IsTrue}
use Rattle.f11_map.specs.HeaderBlock.{segment_number}
use Rattle.f11_index.specs.Table.{table_of}
use Rattle.f11_store.specs.Changes.{is_in}
use Rattle.f11_files.specs.Removing.Drops.{headers_behind}
use Rattle.f11_files.specs.Structure.{home_of, StandsAlike, WritesParts}
use Rattle.f11_files.proofs.Removing.Dropping.{Dropping}
use Rattle.f11_files.proofs.structure.Structure.drop_behind.Given as goal

-- the headers up to the one in the block went, each of a segment of its own
abbrev pub invariant-loop : goal.invariant-loop
invariant-loop g l = record {
  dropping : Dropping l.fn.self l.self l.fn.block l.block (g.D.Device.disk l.fn.device) (g.D.Device.disk l.device);
  confined : IsTrue (g.D.Device.disk l.fn.device).honest
      → WritesParts l.fn.self (is_in (headers_behind (table_of (g.D.Device.disk l.fn.device).image (home_of l.fn.self)) l.fn.block))
      (g.D.Device.disk l.fn.device) (g.D.Device.disk l.device);
  places : StandsAlike l.fn.self l.self;
  passed : l.counter ≤ segment_number l.block;
  early : (l.counter ≡ 0) ⊎ (segment_number l.block < 256);
}
