use Rattle.std.proofs.Common.{◌≡◌, ◌≤◌, ℕ, true, length}
use Rattle.f11_index.specs.Table.{Table, IsFile}
use Rattle.f11_vfy.specs.Surveying.Bits.{has, limit_of}
use Rattle.f11_vfy.specs.Chain.{IsFit, NextsTo, IsClosed}
use Rattle.f11_vfy.proofs.ChainLemmas.{Walks}
use Rattle.f11_vfy.proofs.chains.walk.Given as goal

abbrev pub invariant-loop : goal.invariant-loop
invariant-loop l = record {
  limit : limit_of l.marked ≡ limit_of l.initial.marked;
  range : l.n ≤ length l.nexts;
  walks : (v : Table) → IsFit v → NextsTo v l.nexts v.slots → IsFile v l.first → IsClosed v l.initial.marked
      → Walks v l.marked l.n l.counter;
  kept : (k : ℕ) → has l.initial.marked k ≡ true → has l.marked k ≡ true;
  fresh : l.counter ≡ 0 → l.n ≡ l.first;
  begun : 1 ≤ l.counter → has l.marked l.first ≡ true;
}
