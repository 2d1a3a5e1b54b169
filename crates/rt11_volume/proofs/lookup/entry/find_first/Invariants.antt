use Rattle.std.proofs.Common.{◌≡◌, ◌<◌, ◌*◌, ℕ, Some, None}
use Rattle.std.specs.List.{slice_get}
use Rattle.f11_dev.specs.Looked.{Looked}
use Rattle.rt11_volume.specs.Directory.{segment_of, visited}
use Rattle.rt11_volume.specs.Searching.Looking.{is_wanted, IsPlaceIn}
use Rattle.rt11_volume.specs.Verifying.Verdict.{IsSoundDisk}
use Rattle.rt11_volume.proofs.Walking.Walk.{IsNext}
use Rattle.rt11_volume.proofs.lookup.entry.find_first.Given as goal

-- the walk so far, with no such entry in the segments behind it
abbrev pub invariant-loop : goal.invariant-loop
invariant-loop g l =
    let old = g.D.Device.disk l.fn.device in
    let now = g.D.Device.disk l.device in
    record {
      next : IsSoundDisk old → IsNext old.image l.counter l.number;
      none : IsSoundDisk old → (j k : ℕ) → j < l.counter → slice_get (visited old.image) j ≡ Some k
          → IsPlaceIn (is_wanted l.wanted) (segment_of old.image k).entries None;
      looked : Looked old now (2 * l.counter) 0;
    }
