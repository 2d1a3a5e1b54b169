use Rattle.f11_patterns.proofs.FittingLemmas.{PutsSoFar}
use Rattle.f11_patterns.proofs.fitting.put_kept.Given as goal

-- so many may still be put of what follows
abbrev pub invariant-loop-character : goal.invariant-loop-character
invariant-loop-character l = PutsSoFar l.fn.into.items l.most l.text l.character-index l.into.items l.left
