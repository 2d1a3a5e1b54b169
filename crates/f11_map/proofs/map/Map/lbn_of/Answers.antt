use Rattle.std.proofs.Common.{sym}
use Rattle.f11_map.specs.MapArea.{runs_of}
use Rattle.f11_map.specs.Map.{area_of}
use Rattle.f11_map.proofs.RunLemmas.{slice_get-blocks_in}
use Rattle.f11_map.proofs.map.Map.lbn_of.Goals as goal

pub returns : goal.returns
returns c =
    sym (slice_get-blocks_in (runs_of (area_of c.args.self.now)) c.args.place c.in_ok-i.i c.in_ok-i.left c.run.result c.run.ensures.run
    c.in_ok-i.ensures.found)
