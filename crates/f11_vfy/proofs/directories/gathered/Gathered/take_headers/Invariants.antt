use Rattle.f11_index.specs.Kept.{index_kept}
use Rattle.f11_vfy.proofs.Directory.Course.{Courses}
use Rattle.f11_vfy.proofs.directories.gathered.Gathered.take_headers.Given as goal

-- the headers so far are taken
abbrev pub invariant-loop : goal.invariant-loop
invariant-loop g l =
    Courses (index_kept l.index) l.slots l.nexts l.dir l.at l.second l.fn.self (g.D.Device.disk l.fn.device) l.counter l.behind l.n l.self
    (g.D.Device.disk l.device)
