use Rattle.f11_catalog.proofs.LedLemmas.{slot-in-use, slot-unused-none, slot-unused-opens, slot-unused-other}
use Rattle.f11_catalog.proofs.walk.led.open_unused.Goals as goal

pub returns-in-None-2-clause-opens : goal.returns-in-None-2-clause-opens
returns-in-None-2-clause-opens g c =
    slot-unused-opens _ _ _ _ _ c.in-Some.file (rw c.in-Some.is at c.in_ok-file.ensures.opens) _
    (rw c.id.ensures at (rw c.in-None-2.is at c.in_ok-open-in-Some-under_its_name.ensures.none)) _ c.in-Some-under_its_name.ensures.under

pub returns-in-Some-2-clause-none : goal.returns-in-Some-2-clause-none
returns-in-Some-2-clause-none g c =
    slot-in-use _ _ _ _ _ c.in-Some.file (rw c.in-Some.is at c.in_ok-file.ensures.opens) _ _
    (rw c.id.ensures at (rw c.in-Some-2.is at c.in_ok-open-in-Some-under_its_name.ensures.opens))

pub returns-in-None-under_its_name-clause-none : goal.returns-in-None-under_its_name-clause-none
returns-in-None-under_its_name-clause-none g c =
    slot-unused-other _ _ _ _ _ c.in-Some.file (rw c.in-Some.is at c.in_ok-file.ensures.opens) c.in-None-under_its_name.ensures.none

pub returns-in-None-clause-none : goal.returns-in-None-clause-none
returns-in-None-clause-none g c = slot-unused-none _ _ _ _ _ (rw c.in-None.is at c.in_ok-file.ensures.none)
