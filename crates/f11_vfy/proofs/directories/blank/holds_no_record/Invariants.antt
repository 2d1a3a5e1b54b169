use Rattle.std.proofs.Common.{◌≡◌, ◌<◌, ℕ, true}
use Rattle.f11_store.specs.Directory.{is_empty, record_in}
use Rattle.f11_vfy.proofs.directories.blank.holds_no_record.Given as goal

-- the records so far are empty
abbrev pub invariant-loop-k : goal.invariant-loop-k
invariant-loop-k l = (k : ℕ) → k < l.k → is_empty (record_in l.block k) ≡ true
