use Rattle.std.proofs.Common.{refl}
use Rattle.f11_catalog.proofs.ListingLemmas.{reads-then}
use Rattle.f11_commands.proofs.AllLemmas.{begins-all, lies-within, wide-within}
use Rattle.f11_commands.proofs.get.all.begin.begin_on_volume.Goals as goal

pub returns-in-Ok-begin_in_index-clause-begins : goal.returns-in-Ok-begin_in_index-clause-begins
returns-in-Ok-begin_in_index-clause-begins g c =
    let found = rw c.in-Ok.is at c.in_ok-index.ensures.found in
    let begun = c.in-Ok-begin_in_index.ensures.begins in
    let all-used = c.in_ok-wide-in-Ok.ensures in (
      refl,
      lies-within _ _ _ _ _ found _ _ _ _ begun all-used,
      wide-within _ _ _ _ _ found _ _ _ _ begun all-used,
      begun.begins.walking,
      begins-all _ _ _ _ _ found _ _ _ _ begun all-used,
    )

pub returns-in-Err-DeviceFault-clause-failed : goal.returns-in-Err-DeviceFault-clause-failed
returns-in-Err-DeviceFault-clause-failed g c =
    let found = rw c.in-Ok.is at c.in_ok-index.ensures.found in
    (reads-then (_, found.looked) (rw c.in-Err-DeviceFault.field-0-is at c.in-Err-DeviceFault.ensures.failed), refl)

pub returns-in-Ok-clause-failed : goal.returns-in-Ok-clause-failed
returns-in-Ok-clause-failed g c =
    let found = rw c.in-Ok.is at c.in_ok-index.ensures.found in
    (reads-then (_, found.looked) (rw c.in-Err-NoMemory.field-0-is at c.in-Err-NoMemory.ensures.failed), refl)
