use Rattle.std.proofs.Common.{◌≡◌, ◌≤◌, ℕ, length, get_or, vec_len}
use Rattle.f11_index.specs.Table.{Table}
use Rattle.f11_vfy.specs.Chain.{KeepsTable, NextsTo}
use Rattle.f11_vfy.proofs.chains.nexts_of.Given as goal

abbrev pub invariant-loop-k : goal.invariant-loop-k
invariant-loop-k l = record {
  count : vec_len l.nexts ≡ l.k;
  range : (i : ℕ) → get_or l.nexts.items i 0 ≤ length l.slots;
  nexts : (v : Table) → KeepsTable v l.slots → NextsTo v l.nexts.items l.k;
}
