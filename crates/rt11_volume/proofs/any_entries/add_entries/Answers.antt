use Rattle.std.proofs.Common.{◌∙◌, get_or, [], arith}
use Rattle.rt11_volume.specs.Segment.{segment_with}
use Rattle.rt11_volume.proofs.Rewriting.Entries.{area_start-more}
use Rattle.rt11_volume.proofs.SurveyLemmas.{told-says, told-more}
use Rattle.rt11_volume.proofs.any_entries.add_entries.Goals as goal

pub loop-i-preserved : goal.loop-i-preserved
loop-i-preserved c =
    let seg = segment_with c.args.number c.args.segment.now in
    let says = c.entry-entry.ensures in
    record {
      start = omega (
        arith,
        c.loop-i.invariant.start,
        area_start-more seg c.loop-i.i (omega (arith, c.loop-i-test.true, c.entry_count-i-end.ensures.count)),
        c.from-start-in-loop-i.ensures,
        says.length,
      );
      low = omega (arith, c.loop-i.invariant.low, c.from-start-in-loop-i.ensures);
      added = c.in_ok-add_entry.ensures
          ∙ told-more seg c.args.entries.now.items c.loop-i.entries.items _ c.loop-i.i
          (told-says c.args.number c.loop-i.i c.entry-entry.result (get_or seg.entries c.loop-i.i []) c.loop-i.start _ says
          c.loop-i.invariant.start)
          c.loop-i.invariant.added;
    }
