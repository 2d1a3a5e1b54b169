use Rattle.std.proofs.Common.{◌+◌, ◌-◌, ◌/◌, ◌*◌, ◌<◌, ◌≤◌, min, IsTrue}
use Rattle.f11_dev.specs.Looked.{Looked}
use Rattle.f11_bits.specs.Bitmap.{is_free}
use Rattle.f11_bits.specs.Room.{IsFirstRoom}
use Rattle.f11_bits.specs.Storage.{bitmap_of, kept_at, low_of}
use Rattle.f11_bits.specs.Transfers.{MakesFewer}
use Rattle.f11_bits.proofs.storage.Storage.find_room.Given as goal

-- the first room so far is too short, and each bitmap block was read once, but for the one that is kept
abbrev pub invariant-loop-index : goal.invariant-loop-index
invariant-loop-index g l =
    let old = g.D.Device.disk l.fn.device in
    let now = g.D.Device.disk l.device in
    let bitmap = bitmap_of l.fn.self in
    record {
      room : IsTrue old.honest → IsFirstRoom (is_free old.image bitmap) l.n 0 (min (4096 * l.index) bitmap.size) l.start;
      above : low_of l.fn.self / 4096 * 4096 ≤ l.start;
      within : l.start ≤ min (4096 * l.index) bitmap.size;
      short : min (4096 * l.index) bitmap.size < l.start + l.n;
      saves : kept_at l.fn.self < l.index → MakesFewer l.index old now;
      looked : Looked old now (l.index - low_of l.fn.self / 4096) 0;
    }
