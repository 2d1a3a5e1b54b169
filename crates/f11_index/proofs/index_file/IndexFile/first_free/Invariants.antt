use Rattle.std.proofs.Common.{◌≡◌, []}
use Rattle.f11_index.specs.Kept.{index_kept}
use Rattle.f11_index.specs.Slots.{free_between}
use Rattle.f11_index.proofs.index_file.IndexFile.first_free.Given as goal

-- no slot so far is free
abbrev pub invariant-loop-n : goal.invariant-loop-n
invariant-loop-n l = free_between (index_kept l.self) l.start l.n ≡ []
