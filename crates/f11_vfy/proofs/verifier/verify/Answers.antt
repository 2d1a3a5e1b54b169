use Rattle.std.proofs.Common.{sym, ◌∙◌}
use Rattle.f11_vfy.proofs.Surveying.Over.{none-judged, some-judged}
use Rattle.f11_vfy.proofs.verifier.verify.Goals as goal

pub returns-then-is_empty-clause-report : goal.returns-then-is_empty-clause-report
returns-then-is_empty-clause-report g c =
    rw c.again.ensures (none-judged _ _ _ _ (sym c.is_empty.ensures ∙ c.if-is_empty.true) c.in-Ok.ensures.judges)

pub returns-else-is_empty-clause-report : goal.returns-else-is_empty-clause-report
returns-else-is_empty-clause-report g c =
    some-judged _ _ _ _ _ (sym c.is_empty.ensures ∙ c.if-is_empty.false) (λ some. tt) c.in-Ok.ensures.judges
