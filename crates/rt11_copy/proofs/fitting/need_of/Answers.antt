use Rattle.rt11_copy.proofs.FitLemmas.{counted-more}
use Rattle.rt11_copy.proofs.fitting.need_of.Goals as goal

pub loop-i-preserved : goal.loop-i-preserved
loop-i-preserved c =
    let l = c.loop-i in
    let t = c.added-tally in
    record {
      are = counted-more c.args.size c.args.entries.now l.i c.index-entries-i.result c.loop-i-test.true c.index-entries-i.is l.tally.files
          l.tally.blocks l.tally.ends_empty c.is_copied.result t.result.files t.result.blocks t.result.ends_empty l.invariant.are
          c.is_copied.ensures t.ensures.files t.ensures.blocks t.ensures.last;
    }
