use Rattle.std.proofs.Common.{subst}
use Rattle.f11_patterns.specs.Split.{IsSplit}
use Rattle.f11_patterns.proofs.PatternLemmas.{name_text-parts}
use Rattle.f11_patterns.proofs.name_parts.name_and_type.Goals as goal

pub returns : goal.returns
returns c = λ words name is.
    name_text-parts c.args.text.now _ _ _ c.split-2.result.1.now words c.split.ensures
    (subst (λ text. IsSplit text c.split-2.result.0.now c.split-2.result.1.now) c.without_first.ensures c.split-2.ensures) name is
