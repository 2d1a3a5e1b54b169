use Rattle.std.proofs.Common.{refl}
use Rattle.std.proofs.lemmas.Result.{on_err_weaker}
use Rattle.f11_catalog.proofs.ListingLemmas.{reads-then}
use Rattle.f11_commands.specs.AllCommand.{nothing}
use Rattle.f11_commands.proofs.get.all.taking.take_out.Goals as goal

pub returns-in-Ok-first_missing-clause-full : goal.returns-in-Ok-first_missing-clause-full
returns-in-Ok-first_missing-clause-full g c =
    on_err_weaker c.take_to.result
    (λ full. reads-then (_, c.in-Ok.ensures.finds.looked)
    (reads-then (_, c.in-Ok-first_missing.ensures.finds.looked) (_, full.looked)))
    c.take_to.ensures.full

pub returns-in-Err-first_missing-clause-takes : goal.returns-in-Err-first_missing-clause-takes
returns-in-Err-first_missing-clause-takes g c = nothing (record {
  none = c.none_taken.ensures;
  untouched = refl;
  reads = reads-then (_, c.in-Ok.ensures.finds.looked) (_, c.in-Err-first_missing.ensures.failed);
})
