use Rattle.std.proofs.Common.{refl}
use Rattle.f11_catalog.proofs.FilesLemmas.{begins-entered, begins-walk}
use Rattle.f11_catalog.proofs.ListingLemmas.{reads-then}
use Rattle.f11_catalog.proofs.walk.state.AllFiles.begin.Goals as goal

pub returns-in-Ok-find_led-clause-begins : goal.returns-in-Ok-find_led-clause-begins
returns-in-Ok-find_led-clause-begins g c =
    let finds = c.in-Ok-find_led.ensures.finds in
    begins-walk _ _ _ _ _ _ _ _ (begins-entered _ _ _ _ _ _ c.in-Ok.ensures.opens refl c.in-Some.ensures finds.first) finds
    c.in-Some-begin.ensures

pub returns-in-Err-find_led-clause-failed : goal.returns-in-Err-find_led-clause-failed
returns-in-Err-find_led-clause-failed g c = reads-then (_, c.in-Ok.ensures.opens.looked) c.in-Err-find_led.ensures.failed
