use Rattle.std.proofs.Common.{◌-◌, length}
use Rattle.f11_scan.specs.Scan.{place_of, scanned_disk}
use Rattle.f11_scan.proofs.CountLemmas.{Counted}
use Rattle.f11_scan.proofs.tests.count.Given as goal

abbrev pub invariant-loop-n : goal.invariant-loop-n
invariant-loop-n g l =
    Counted (place_of l.initial.scan) (scanned_disk g.D.Device.disk l.initial.scan) (scanned_disk g.D.Device.disk l.scan) l.n
    (place_of l.scan)

abbrev pub decreases-loop-n : goal.decreases-loop-n
decreases-loop-n g l = length (scanned_disk g.D.Device.disk l.scan).image - place_of l.scan
