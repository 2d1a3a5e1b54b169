use Rattle.std.proofs.Common.{arith}
use Rattle.rt11_volume.specs.Entry.{entry_size}
use Rattle.rt11_volume.specs.Segment.{entries, extra_bytes}
use Rattle.rt11_volume.proofs.Rewriting.Draft.{Puts-entry}
use Rattle.rt11_volume.proofs.rewrite.draft.Draft.put_entries.Goals as goal

pub loop-i-preserved : goal.loop-i-preserved
loop-i-preserved c =
    let s = c.args.from.now in
    let x = extra_bytes s in
    record {
      low = omega (arith, c.loop-i-test.true);
      puts = Puts-entry _ _ _ (entries x s) c.args.first c.loop-i.i (entry_size x) (omega (arith, c.loop-i.auto))
          (omega (arith, c.loop-i-test.true, c.requires.entries)) c.loop-i.invariant.puts c.put_entry.ensures;
    }
