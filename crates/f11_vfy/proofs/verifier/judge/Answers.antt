use Rattle.std.proofs.Common.{sym, ◌∙◌}
use Rattle.f11_vfy.proofs.Surveying.Over.{passes, some-judged}
use Rattle.f11_vfy.proofs.verifier.judge.Goals as goal

pub returns-then-is_empty-clause-judged : goal.returns-then-is_empty-clause-judged
returns-then-is_empty-clause-judged g c =
    rw c.again.ensures (passes _ _ _ _ (sym c.is_empty.ensures ∙ c.if-is_empty.true) c.in-Ok.ensures.judges)

pub returns-else-is_empty-clause-judged : goal.returns-else-is_empty-clause-judged
returns-else-is_empty-clause-judged g c =
    some-judged _ _ _ _ _ (sym c.is_empty.ensures ∙ c.if-is_empty.false) (λ some. some) c.in-Ok.ensures.judges
