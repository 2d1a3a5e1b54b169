use Rattle.std.proofs.Common.{◌≡◌, ◌-◌, ◌*◌, ◌/◌, ◌<◌, min, IsTrue}
use Rattle.f11_dev.specs.Went.{Went}
use Rattle.f11_bits.specs.Bitmap.{KeepsFrom, KeepsOthers, Marks}
use Rattle.f11_bits.specs.Changes.{Changing}
use Rattle.f11_bits.specs.Transfers.{MakesFewer}
use Rattle.f11_bits.specs.Storage.{bitmap_of, kept_at, IsOn, StandsAlike}
use Rattle.f11_bits.proofs.storage.Storage.mark.Given as goal

-- the blocks so far are marked, each bitmap block was read once at most and written once, and the last is kept
abbrev pub invariant-loop-index : goal.invariant-loop-index
invariant-loop-index g l =
    let old = g.D.Device.disk l.fn.device in
    let now = g.D.Device.disk l.device in
    let bitmap = bitmap_of l.fn.self in
    record {
      stands : StandsAlike l.fn.self l.self;
      on : IsOn l.self now;
      first : l.index ≡ l.lbn / 4096 → kept_at l.self ≡ kept_at l.fn.self;
      last : l.lbn / 4096 < l.index → kept_at l.self ≡ l.index - 1;
      saves : kept_at l.fn.self ≡ l.lbn / 4096 → l.lbn / 4096 < l.index → MakesFewer (2 * (l.index - l.lbn / 4096)) old now;
      later : KeepsFrom bitmap l.index old.image now.image;
      keeps : KeepsOthers bitmap old.image now.image;
      marks : IsTrue old.honest → Marks l.free bitmap l.lbn (min l.end (4096 * l.index) - l.lbn) old.image now.image;
      went : Went (Changing old.honest l.free bitmap l.lbn l.count old.image) old now (2 * (l.index - l.lbn / 4096)) 0;
    }
