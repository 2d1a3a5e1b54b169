use Rattle.std.proofs.Common.{◌≡◌, ℕ, ◌<◌, false}
use Rattle.f11_store.specs.Directory.{record_in, is_empty}
use Rattle.f11_dir.proofs.search.first_empty.Given as goal

abbrev pub invariant-loop-i : goal.invariant-loop-i
invariant-loop-i l = (k : ℕ) → k < l.i → is_empty (record_in l.block k) ≡ false
