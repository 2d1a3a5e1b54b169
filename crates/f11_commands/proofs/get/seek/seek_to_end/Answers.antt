use Rattle.std.proofs.Common.{refl}
use Rattle.f11_bytes.proofs.ResultLemmas.{OnErr-given}
use Rattle.f11_catalog.proofs.ListingLemmas.{reads-then}
use Rattle.f11_commands.proofs.GetLemmas.{finds-with-end, none-behind}
use Rattle.f11_commands.proofs.get.seek.seek_to_end.Goals as goal

pub returns-in-Ok-clause-found : goal.returns-in-Ok-clause-found
returns-in-Ok-clause-found g c =
    finds-with-end _ _ _ _ _ _ _ _ c.in_ok-size.ensures.finds (rw c.in-Ok.is at c.in_ok-found.ensures.found)

pub returns-in-Err-clause-none : goal.returns-in-Err-clause-none
returns-in-Err-clause-none g c =
    none-behind _ _ _ _ _ _ c.in_ok-size.ensures.finds.reads (λ honest. refl) _ (rw c.in-Err.is at c.in_ok-found.ensures.none)

pub returns-in_err-found-clause-failed : goal.returns-in_err-found-clause-failed
returns-in_err-found-clause-failed g c =
    OnErr-given _ (reads-then c.in_ok-size.ensures.finds.reads c.in_err-found.ensures.failed)
