use Rattle.f11_catalog.proofs.GoingLemmas.{named-none, named-opens}
use Rattle.f11_catalog.proofs.HandedLemmas.{found-then, none-then}
use Rattle.f11_catalog.proofs.WalkLemmas.{no-name-directory}
use Rattle.f11_catalog.proofs.walk.entered.open_named.Goals as goal

pub returns-in_default-clause-none : goal.returns-in_default-clause-none
returns-in_default-clause-none g c = λ bytes is. no-name-directory bytes _ is _ _ _ (rw c.in_default.is at c.name.ensures)

pub returns-clause-opens : goal.returns-clause-opens
returns-clause-opens g c =
    found-then c.open_directory.result (λ hand opens bytes is.
    named-opens bytes _ is _ _ c.in-Some.name (rw c.in-Some.is at c.name.ensures) _ _ hand (rw c.of.ensures at opens))
    c.open_directory.ensures.opens

pub returns-clause-none : goal.returns-clause-none
returns-clause-none g c =
    none-then c.open_directory.result (λ none bytes is.
    named-none bytes _ is _ _ c.in-Some.name (rw c.in-Some.is at c.name.ensures) _ _ (rw c.of.ensures at none))
    c.open_directory.ensures.none
