use Rattle.f11_dev.specs.Looked.{Looked}
use Rattle.f11_index.proofs.FollowLemmas.{Walking}
use Rattle.f11_index.proofs.walk.follow.Given as goal

-- the headers so far were read, each once
abbrev pub invariant-loop-segment : goal.invariant-loop-segment
invariant-loop-segment g l =
    let old = g.D.Device.disk l.fn.device in
    let now = g.D.Device.disk l.device in
    record {
      walking : Walking old.image old.honest l.home l.bitmap l.due l.segment l.blocks;
      looked : Looked old now l.segment 0;
    }
