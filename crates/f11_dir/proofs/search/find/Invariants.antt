use Rattle.std.proofs.Common.{◌≡◌, ℕ, ◌<◌, false}
use Rattle.f11_store.specs.Directory.{record_in, has_name}
use Rattle.f11_dir.proofs.search.find.Given as goal

abbrev pub invariant-loop-place : goal.invariant-loop-place
invariant-loop-place l = (k : ℕ) → k < l.place → has_name l.name (record_in l.block k) ≡ false
