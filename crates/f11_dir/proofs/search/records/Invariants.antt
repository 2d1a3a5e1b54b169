use Rattle.std.proofs.Common.{◌≡◌, ℕ, ◌<◌, [], length, get_or}
use Rattle.f11_store.specs.Directory.{record_in}
use Rattle.f11_dir.specs.Records.{record_of_bytes}
use Rattle.f11_dir.proofs.search.records.Given as goal

abbrev pub invariant-loop-i : goal.invariant-loop-i
invariant-loop-i l = record {
  long : length l.records ≡ 32;
  read : (k : ℕ) → k < l.i → get_or l.records k (record_of_bytes []) ≡ record_of_bytes (record_in l.block k);
}
