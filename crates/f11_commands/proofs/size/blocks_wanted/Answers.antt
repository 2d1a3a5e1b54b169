use Rattle.f11_catalog.proofs.ListingLemmas.{reads-then}
use Rattle.f11_commands.proofs.HandedLemmas.{error-is}
use Rattle.f11_commands.proofs.SizeLemmas.{tells-wanted}
use Rattle.f11_commands.specs.Size.{tells}
use Rattle.f11_commands.proofs.size.blocks_wanted.Goals as goal

pub returns-in_ok-size-in-Ok-clause-finds : goal.returns-in_ok-size-in-Ok-clause-finds
returns-in_ok-size-in-Ok-clause-finds g c =
    let found = rw c.in-Ok.is at c.in_ok-index.ensures.found in
    tells (tells-wanted _ _ _ c.in_ok-size-in-Ok.size _ _ _ _ _ found c.in_ok-wide-in-Ok.ensures c.in_ok-size-in-Ok.ensures.reads
    c.blocks-in-Ok.ensures.count c.above.ensures)

pub returns-in_err-size-in-Ok-clause-failed : goal.returns-in_err-size-in-Ok-clause-failed
returns-in_err-size-in-Ok-clause-failed g c =
    let found = rw c.in-Ok.is at c.in_ok-index.ensures.found in
    error-is _ _ _ c.from_residual-in_err-size-in-Ok.ensures.1 (reads-then (_, found.looked) c.in_err-size-in-Ok.ensures.failed)
