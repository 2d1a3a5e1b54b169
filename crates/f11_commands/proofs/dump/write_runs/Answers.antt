use Rattle.std.proofs.KnownBytes.{Appends-trans}
use Rattle.f11_catalog.specs.map.Map.{area_of}
use Rattle.f11_catalog.specs.map.MapArea.{runs_of}
use Rattle.f11_commands.specs.Dump.{run_line}
use Rattle.f11_commands.proofs.LineLemmas.{lines-more}
use Rattle.f11_commands.proofs.dump.write_runs.Goals as goal

pub loop-i-preserved : goal.loop-i-preserved
loop-i-preserved g c =
    rw (lines-more run_line (runs_of (area_of c.args.map.now)) c.loop-i.i c.run-lbn.result c.run-lbn.ensures.run)
    (Appends-trans _ _ _ _ _ c.loop-i.invariant c.in_ok-writeln.ensures.bytes)
