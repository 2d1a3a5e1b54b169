use Rattle.std.proofs.lemmas.Result.{on_err_weaker}
use Rattle.f11_catalog.proofs.ListingLemmas.{reads-then}
use Rattle.f11_commands.proofs.GetLemmas.{finds-behind, none-behind, sought-is}
use Rattle.f11_commands.proofs.HandedLemmas.{found-then, refused-then}
use Rattle.f11_commands.proofs.get.seek.seek_in_index.Goals as goal

pub returns-in-Ok-clause-found : goal.returns-in-Ok-clause-found
returns-in-Ok-clause-found g c =
    let found = rw c.in-Ok.is at c.in_ok-id.ensures.found in
    found-then c.open_entered.result (λ _ opens. finds-behind _ _ _ _ _ _ found.reads (sought-is _ _ _ _ _ _ _ found) _ _ opens)
    c.open_entered.ensures.found

pub returns-in-Ok-clause-none : goal.returns-in-Ok-clause-none
returns-in-Ok-clause-none g c =
    let found = rw c.in-Ok.is at c.in_ok-id.ensures.found in
    refused-then c.open_entered.result (λ _ lacks. none-behind _ _ _ _ _ _ found.reads (sought-is _ _ _ _ _ _ _ found) _ lacks)
    c.open_entered.ensures.none

pub returns-in-Ok-clause-failed : goal.returns-in-Ok-clause-failed
returns-in-Ok-clause-failed g c =
    let found = rw c.in-Ok.is at c.in_ok-id.ensures.found in
    on_err_weaker c.open_entered.result (λ fails. reads-then found.reads fails) c.open_entered.ensures.failed
