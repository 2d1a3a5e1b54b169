use Rattle.std.proofs.Common.{◌≡◌, ◌≤◌, ◌+◌, ℕ, true, length}
use Rattle.f11_index.specs.Table.{Table, IsFile}
use Rattle.f11_vfy.specs.Surveying.Bits.{has, limit_of}
use Rattle.f11_vfy.specs.Chain.{KeepsTable, NextsTo, IsClosed}
use Rattle.f11_vfy.proofs.chains.mark_files.Given as goal

abbrev pub invariant-loop-k : goal.invariant-loop-k
invariant-loop-k l = record {
  limit : limit_of l.marked ≡ length l.nexts + 1;
  closed : (v : Table) → KeepsTable v l.slots → NextsTo v l.nexts v.slots → IsClosed v l.marked;
  firsts : (v : Table) → KeepsTable v l.slots → (f : ℕ) → 1 ≤ f → f ≤ l.k → IsFile v f → has l.marked f ≡ true;
}
