use Rattle.std.proofs.Common.{◌∙◌, subst, sym}
use Rattle.std.proofs.lemmas.Bool.{false≢true}
use Rattle.f11_patterns.specs.Pattern.{IsOne}
use Rattle.f11_patterns.proofs.naming.OneName.of.Goals as goal

pub returns-in_default-clause-none : goal.returns-in_default-clause-none
returns-in_default-clause-none c = λ parts is one. c.in_default.ensures.every parts is

pub returns-then-not-is_one-clause-none : goal.returns-then-not-is_one-clause-none
returns-then-not-is_one-clause-none c = λ parts is one.
    false≢true (sym c.if-not-is_one.true ∙ c.is_one.ensures.one.1 (subst IsOne (sym (c.in-Ok.ensures.every parts is)) one))
