use Rattle.std.proofs.Common.{◌≤◌, ◌∙◌, Some, ap, sym, arith, subst}
use Rattle.rt11_squeeze.specs.declared.moving.FileToMove.{FileToMove}
use Rattle.std.proofs.lemmas.Option.{slice_get-get_or}
use Rattle.f11_commands.specs.RtSqueeze.{squeezed_line}
use Rattle.f11_commands.proofs.RtSqueezeLemmas.{pairs-all, pairs-more}
use Rattle.f11_commands.proofs.rt_squeeze.write_lines.Goals as goal

pub loop-at-preserved : goal.loop-at-preserved
loop-at-preserved g c =
    let l = c.loop-at in
    pairs-more squeezed_line c.args.files.now c.args.outcomes.now (g.W.Write.contents c.args.writer.now) l.at c.index-files-at.result _
    (g.W.Write.contents l.writer) (g.W.Write.contents c.write_line.new.writer)
    (slice_get-get_or c.args.files.now l.at c.index-files-at.result (omega (arith, c.loop-at-test.true, c.min-at-end.ensures))
    ∙ ap (λ (f : FileToMove). Some f) (sym c.index-files-at.is))
    (slice_get-get_or c.args.outcomes.now l.at _ (omega (arith, c.loop-at-test.true, c.min-at-end.ensures))) l.invariant
    c.in_ok-write_line.ensures

pub returns : goal.returns
returns g c =
    let l = c.loop-at in
    pairs-all squeezed_line c.args.files.now c.args.outcomes.now (g.W.Write.contents c.args.writer.now) l.at
    (g.W.Write.contents l.writer) (subst (λ n. n ≤ l.at) c.min-at-end.ensures c.loop-at-test.false) l.invariant
