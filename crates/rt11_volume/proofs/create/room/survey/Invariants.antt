use Rattle.std.proofs.Common.{◌*◌}
use Rattle.f11_dev.specs.Looked.{Looked}
use Rattle.rt11_volume.specs.Entry.{is_file_named}
use Rattle.rt11_volume.specs.Verifying.Verdict.{IsSoundDisk}
use Rattle.rt11_volume.specs.Searching.Search.{is_empty_for}
use Rattle.rt11_volume.proofs.Searching.Looking.{HasNoneBefore, IsFoundSoFar}
use Rattle.rt11_volume.proofs.Walking.Walk.{IsNext}
use Rattle.rt11_volume.proofs.create.room.survey.Given as goal

-- the walk so far, with no file of the name in the segments behind it, and the first area that is long enough
abbrev pub invariant-loop : goal.invariant-loop
invariant-loop g l =
    let old = g.D.Device.disk l.fn.device in
    let now = g.D.Device.disk l.device in
    record {
      next : IsSoundDisk old → IsNext old.image l.counter l.number;
      none : IsSoundDisk old → HasNoneBefore (is_file_named l.fn.name) old.image l.counter;
      found : IsFoundSoFar (is_empty_for l.fn.blocks) old l.counter l.area;
      looked : Looked old now (2 * l.counter) 0;
    }
