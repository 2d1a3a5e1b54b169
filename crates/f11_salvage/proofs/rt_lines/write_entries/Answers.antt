use Rattle.std.proofs.Common.{◌≤◌, ◌∙◌, Some, ap, sym, arith, subst}
use Rattle.std.proofs.lemmas.Option.{slice_get-get_or}
use Rattle.rt11_volume.specs.declared.any_entries.RtEntry.{RtEntry}
use Rattle.f11_commands.proofs.RtSqueezeLemmas.{pairs-all, pairs-more}
use Rattle.f11_salvage.specs.RtLines.{entry_line}
use Rattle.f11_salvage.proofs.rt_lines.write_entries.Goals as goal

pub loop-at-preserved : goal.loop-at-preserved
loop-at-preserved g c =
    let l = c.loop-at in
    pairs-more entry_line c.args.entries.now c.args.outcomes.now (g.W.Write.contents c.args.writer.now) l.at c.index-entries-at.result _
    (g.W.Write.contents l.writer) (g.W.Write.contents c.write_entry.new.writer)
    (slice_get-get_or c.args.entries.now l.at c.index-entries-at.result (omega (arith, c.loop-at-test.true, c.min-at-end.ensures))
    ∙ ap (λ (e : RtEntry). Some e) (sym c.index-entries-at.is))
    (slice_get-get_or c.args.outcomes.now l.at _ (omega (arith, c.loop-at-test.true, c.min-at-end.ensures))) l.invariant
    c.in_ok-write_entry.ensures

pub returns : goal.returns
returns g c =
    let l = c.loop-at in
    pairs-all entry_line c.args.entries.now c.args.outcomes.now (g.W.Write.contents c.args.writer.now) l.at
    (g.W.Write.contents l.writer) (subst (λ n. n ≤ l.at) c.min-at-end.ensures c.loop-at-test.false) l.invariant
