use Rattle.std.proofs.Common.{subst, sym, ◌∙◌, None, Some}
use Rattle.f11_rad50.specs.Name.{Spells}
use Rattle.f11_words.specs.Directory.{full_name}
use Rattle.f11_words.proofs.DirectoryLemmas.{no-user, only-name, only-user}
use Rattle.f11_words.proofs.directory.read_bare.Goals as goal

pub returns-in-Some-clause-every : goal.returns-in-Some-clause-every
returns-in-Some-clause-every c directory spells =
    only-user c.args.text.now c.in-Some.user c.in-Some.ensures.spelled (λ uic s. sym c.in-Some.is ∙ c.read_uic.ensures.every uic s)
    directory
    spells

pub returns-in-Some-read_name-clause-spelled : goal.returns-in-Some-read_name-clause-spelled
returns-in-Some-read_name-clause-spelled c = (
  no-user c.args.text.now (λ uic s. sym c.in-None.is ∙ c.read_uic.ensures.every uic s),
  subst (λ t. Spells (full_name t) c.in-Some-read_name.name) c.as_bytes.ensures.value c.in-Some-read_name.ensures.spelled,
)

pub returns-in-Some-read_name-clause-every : goal.returns-in-Some-read_name-clause-every
returns-in-Some-read_name-clause-every c directory spells =
    only-name c.args.text.now (no-user c.args.text.now (λ uic s. sym c.in-None.is ∙ c.read_uic.ensures.every uic s))
    (Some c.in-Some-read_name.name)
    (λ words named. sym c.in-Some-read_name.is
    ∙ c.read_name.ensures.every words (subst (λ t. Spells (full_name t) words) (sym c.as_bytes.ensures.value) named))
    directory spells

pub returns-in-None-read_name-clause-every : goal.returns-in-None-read_name-clause-every
returns-in-None-read_name-clause-every c directory spells =
    only-name c.args.text.now (no-user c.args.text.now (λ uic s. sym c.in-None.is ∙ c.read_uic.ensures.every uic s)) None
    (λ words named. sym c.in-None-read_name.is
    ∙ c.read_name.ensures.every words (subst (λ t. Spells (full_name t) words) (sym c.as_bytes.ensures.value) named))
    directory spells
