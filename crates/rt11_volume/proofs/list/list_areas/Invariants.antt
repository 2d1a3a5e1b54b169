use Rattle.std.proofs.Common.{◌≡◌, ◌*◌, take}
use Rattle.std.specs.List.{flat_map}
use Rattle.f11_dev.specs.Looked.{Looked}
use Rattle.rt11_volume.specs.Listing.{shown_segment}
use Rattle.rt11_volume.specs.Searching.Looking.{segments_of}
use Rattle.rt11_volume.specs.Verifying.Verdict.{IsSoundDisk}
use Rattle.rt11_volume.proofs.Walking.Walk.{IsNext}
use Rattle.rt11_volume.proofs.list.list_areas.Given as goal

-- the walk so far, and the areas of the segments behind it
abbrev pub invariant-loop : goal.invariant-loop
invariant-loop g l =
    let old = g.D.Device.disk l.fn.device in
    let now = g.D.Device.disk l.device in
    record {
      next : IsSoundDisk old → IsNext old.image l.counter l.number;
      listed : IsSoundDisk old → l.areas.items ≡ flat_map shown_segment (take l.counter (segments_of old.image));
      looked : Looked old now (2 * l.counter) 0;
    }
