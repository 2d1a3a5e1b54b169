use Rattle.std.proofs.Common.{take}
use Rattle.std.specs.Io.KnownBytes.{Appends}
use Rattle.std.specs.List.{flat_map, zip}
use Rattle.rt11_copy.specs.declared.outcome.RtCopied.{RtCopied}
use Rattle.rt11_volume.specs.declared.any_entries.RtEntry.{RtEntry}
use Rattle.f11_salvage.specs.RtLines.{entry_line}
use Rattle.f11_salvage.proofs.rt_lines.write_entries.Given as goal

-- the lines so far were written
abbrev pub invariant-loop-at : goal.invariant-loop-at
invariant-loop-at g l =
    Appends (g.W.Write.contents l.initial.writer) (g.W.Write.contents l.writer)
    (flat_map (λ (one : RtEntry × RtCopied). entry_line one.0 one.1) (take l.at (zip l.entries l.outcomes)))
