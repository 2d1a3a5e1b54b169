use Rattle.std.proofs.Common.{◌≡◌, arith}
use Rattle.std.proofs.lemmas.Bool.Decides.{nat_tests}
use Rattle.rt11_volume.proofs.NameLemmas.{name_tested, IsName-from_rt}
use Rattle.rt11_volume.proofs.name.is_name.Goals as goal

pub returns-then-first-ne0-clause-name : goal.returns-then-first-ne0-clause-name
returns-then-first-ne0-clause-name c =
    name_tested c.from_words.result c.is_some.result c.args.first c.args.second c.args.kind (λ none. omega (arith, none))
    c.from_words.ensures.name c.is_some.ensures

pub returns-else-first-ne0-clause-name : goal.returns-else-first-ne0-clause-name
returns-else-first-ne0-clause-name c = (
  λ yes. absurd (let no : c.args.first ≡ 0 = c.if-first-ne0.false in grind (arith, nat_tests)),
  λ name.
      absurd ((IsName-from_rt c.args.first c.args.second c.args.kind name).0 (omega arith)),
)
