use Rattle.std.proofs.Common.{◌≡◌, ◌-◌, ◌≤◌, length}
use Rattle.f11_index.specs.Kept.{index_kept}
use Rattle.f11_index.specs.Slots.{free_between}
use Rattle.f11_index.proofs.index_file.IndexFile.count_free.Given as goal

-- the free slots so far are counted
abbrev pub invariant-loop-n : goal.invariant-loop-n
invariant-loop-n l = record { so_far : l.free ≡ length (free_between (index_kept l.self) l.start l.n); few : l.free ≤ l.n - l.start }
