use Rattle.std.proofs.Common.{false, true}
use Rattle.f11_commands.proofs.GetLemmas.{opened-else, opened-finds, opened-none, told-as}
use Rattle.f11_commands.proofs.get.open.open_file.Goals as goal

pub returns-in-Some-clause-found : goal.returns-in-Some-clause-found
returns-in-Some-clause-found g c =
    let found = c.found_file.ensures in
    told-as _ _ _ _ _ c.found_file.result c.in-Some.file true
    (opened-finds _ _ _ _ _ c.in-Some.file _ (rw c.in-Some.is at c.in_ok-file.ensures.opens) found.end)
    found.file found.in_use

pub returns-in-Some-2-clause-found : goal.returns-in-Some-2-clause-found
returns-in-Some-2-clause-found g c =
    let found = c.found_file-in-Some-2.ensures in
    told-as _ _ _ _ _ c.found_file-in-Some-2.result c.in-Some-2.file false
    (opened-else _ _ _ _ _ (rw c.in-None.is at c.in_ok-file.ensures.none) _ c.in-Some-2.file _
    (rw c.in-Some-2.is at c.in_ok-file-in-None.ensures.opens) found.end)
    found.file found.in_use

pub returns-in-None-2-clause-none : goal.returns-in-None-2-clause-none
returns-in-None-2-clause-none g c =
    opened-none _ _ _ _ _ (rw c.in-None.is at c.in_ok-file.ensures.none) _
    (rw c.in-None-2.is at c.in_ok-file-in-None.ensures.none)
