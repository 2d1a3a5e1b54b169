use Rattle.std.proofs.Common.{◌∙◌, ap, subst, sym}
use Rattle.std.specs.Result.{result_ok}
use Rattle.f11_rad50.specs.Name.{Spells}
use Rattle.f11_words.proofs.directory.read_name.Goals as goal

pub returns-clause-every : goal.returns-clause-every
returns-clause-every c words spells =
    c.ok.ensures.value
    ∙ ap result_ok (c.parse.ensures.every words (subst (λ t. Spells t words) (sym c.spell-length.ensures.text) spells))
