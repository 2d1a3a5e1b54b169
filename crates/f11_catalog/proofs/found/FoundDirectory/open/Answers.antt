use Rattle.std.proofs.lemmas.Result.{IfErr-weaker, IfOk-weaker}
use Rattle.f11_catalog.proofs.OpenLemmas.{finds-in-use, finds-out-of-use, lacks-any, lacks-in-use, lacks-out-of-use}
use Rattle.f11_catalog.proofs.found.FoundDirectory.open.Goals as goal

pub returns-in-Some-clause-opens : goal.returns-in-Some-clause-opens
returns-in-Some-clause-opens g c =
    IfOk-weaker c.as_directory.result _ _ (λ found is.
    finds-in-use _ _ _ c.in-Some.file _ _ (rw c.in-Some.is at c.in_ok-file.ensures.opens) found is) c.as_directory.ensures.begins

pub returns-in-Some-clause-refused : goal.returns-in-Some-clause-refused
returns-in-Some-clause-refused g c =
    IfErr-weaker c.as_directory.result _ _ (λ refusal is.
    lacks-in-use _ _ _ c.in-Some.file _ _ (rw c.in-Some.is at c.in_ok-file.ensures.opens) refusal is) c.as_directory.ensures.other

pub returns-in-Some-2-clause-opens : goal.returns-in-Some-2-clause-opens
returns-in-Some-2-clause-opens g c =
    let none = rw c.in-None.is at c.in_ok-file.ensures.none in
    IfOk-weaker c.as_directory-in-Some-2.result _ _ (λ found is.
    finds-out-of-use _ _ _ _ _ none c.in-Some-2.file _ (rw c.in-Some-2.is at c.in_ok-file-in-None.ensures.opens) found is)
    c.as_directory-in-Some-2.ensures.begins

pub returns-in-Some-2-clause-refused : goal.returns-in-Some-2-clause-refused
returns-in-Some-2-clause-refused g c =
    let none = rw c.in-None.is at c.in_ok-file.ensures.none in
    IfErr-weaker c.as_directory-in-Some-2.result _ _ (λ refusal is.
    lacks-out-of-use _ _ _ _ _ none c.in-Some-2.file _ (rw c.in-Some-2.is at c.in_ok-file-in-None.ensures.opens) refusal is)
    c.as_directory-in-Some-2.ensures.other

pub returns-in-None-2-clause-refused : goal.returns-in-None-2-clause-refused
returns-in-None-2-clause-refused g c =
    lacks-any _ _ _ _ _ (rw c.in-None.is at c.in_ok-file.ensures.none) _ (rw c.in-None-2.is at c.in_ok-file-in-None.ensures.none)
