use Rattle.std.proofs.Common.{◌∙◌, sym, arith}
use Rattle.std.proofs.lemmas.Option.{slice_get-get_or}
use Rattle.f11_findings.specs.Finding.{finding}
use Rattle.std.proofs.KnownBytes.{Appends-trans}
use Rattle.f11_commands.specs.Lines.{report_fault_line}
use Rattle.f11_commands.proofs.LineLemmas.{lines-more}
use Rattle.f11_commands.proofs.report.write_faults.Goals as goal
use Rattle.f11_commands.proofs.report.write_faults.Goals.{in-Some+in_ok-writeln, in_default}

pub loop-i-preserved : goal.loop-i-preserved
loop-i-preserved g c = elim c.match-get.branch [
  | in-Some+in_ok-writeln w ↦ rw w.writer-is
      (rw (lines-more (report_fault_line c.args.system) c.args.faults.now c.loop-i.i _ (sym c.get.ensures ∙ w.in-Some.is))
      (Appends-trans _ _ _ _ _ c.loop-i.invariant w.in_ok-writeln.ensures.bytes))
  | in_default w ↦ absurd (w.in_default.not-Some _
      (c.get.ensures ∙ slice_get-get_or c.args.faults.now c.loop-i.i (finding 0 0 0)
      (omega (arith, c.loop-i-test.true, c.len-i-end.ensures))))
]
