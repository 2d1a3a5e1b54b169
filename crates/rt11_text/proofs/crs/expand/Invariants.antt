use Rattle.rt11_text.proofs.CrsLemmas.{Expands}
use Rattle.rt11_text.proofs.crs.expand.Given as goal

-- so many bytes were gone over
abbrev pub invariant-loop-at : goal.invariant-loop-at
invariant-loop-at l = Expands l.source l.fn.cr l.at l.text.items l.behind
