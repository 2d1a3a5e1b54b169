use Rattle.std.proofs.Common.{◌≡◌, ◌<◌, ◌*◌, ◌-◌, length, IsTrue}
use Rattle.f11_dev.specs.Looked.{Looked}
use Rattle.rt11_volume.specs.InHand.{visit_at}
use Rattle.rt11_volume.specs.Segment.{segment_words}
use Rattle.rt11_volume.proofs.Walking.Visit.{IsWalked}
use Rattle.rt11_volume.proofs.directory.visit_all.Given as goal

-- those visited so far, and what is to come
abbrev pub invariant-loop : goal.invariant-loop
invariant-loop g l =
    let old = g.D.Device.disk l.fn.device in
    let now = g.D.Device.disk l.device in
    record {
      some : 0 < length l.visited.items;
      first : (visit_at l.visited.items 0).segment ≡ l.fn.first;
      walked : IsTrue old.honest → l.fn.first ≡ segment_words old.image 1 → IsWalked old.image (31 - l.counter) l.visited.items;
      looked : Looked old now (2 * (l.counter - 1)) 0;
    }
