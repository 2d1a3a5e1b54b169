use Rattle.std.proofs.Common.{IsTrue}
use Rattle.f11_dev.specs.Looked.{Looked}
use Rattle.f11_home.specs.Home.{NoneBelow}
use Rattle.f11_home.proofs.home.find.Given as goal

-- no candidate so far is valid, and each was read once
abbrev pub invariant-loop-k : goal.invariant-loop-k
invariant-loop-k g l =
    let old = g.D.Device.disk l.fn.device in
    let now = g.D.Device.disk l.device in
    record {
      none : IsTrue old.honest → NoneBelow old.image l.k;
      looked : Looked old now l.k 0;
    }
