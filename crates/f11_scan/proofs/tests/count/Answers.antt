use Rattle.std.proofs.Common.{Option, subst}
use Rattle.f11_scan.specs.Scan.{place_of, scanned_disk, FindsNext}
use Rattle.f11_scan.specs.declared.found.FoundHeader.{FoundHeader}
use Rattle.f11_scan.proofs.CountLemmas.{counted-all, counted-more, finds-none}
use Rattle.f11_scan.proofs.tests.count.Goals as goal

pub loop-n-preserved : goal.loop-n-preserved
loop-n-preserved g c = counted-more _ _ _ _ _ _ _ _ c.in-Some.field-0 c.loop-n.invariant
    (subst (λ (o : Option FoundHeader). FindsNext o (scanned_disk g.D.Device.disk c.loop-n.scan) (place_of c.loop-n.scan)
    (place_of c.next.new.self)) c.in-Some.is c.in_ok-next.ensures.next) c.in_ok-next.ensures.looked

pub returns : goal.returns
returns g c = counted-all _ _ _ _ _ _ c.loop-n.invariant (finds-none _ _ _ _ c.in_default.not-Some c.in_ok-next.ensures.next)
