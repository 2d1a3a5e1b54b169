use Rattle.std.proofs.Common.{◌==◌, ◌∙◌, ap, arith, not}
use Rattle.f11_patterns.proofs.FittingLemmas.{numeral-zero}
use Rattle.f11_actions.proofs.RtNamedLemmas.{has-some-by-dot}
use Rattle.f11_actions.proofs.rt_named.has_some.Goals as goal

pub fitted_text-text-requires-clause-number : goal.fitted_text-text-requires-clause-number
fitted_text-text-requires-clause-number c = rw numeral-zero (omega arith)

pub returns : goal.returns
returns c =
    ap (λ character. not (character == 46)) c.first_of.ensures
    ∙ has-some-by-dot c.args.part.now c.as_slice.result.now (c.as_slice.ensures.value ∙ c.fitted_text-text.ensures.text)
