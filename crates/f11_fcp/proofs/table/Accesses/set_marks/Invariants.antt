use Rattle.std.proofs.Common.{◌≡◌, ℕ, None, option_map, nat_lt, slice_index_or, if◌then◌else◌}
use Rattle.f11_fcp.specs.Accesses.{marked_if}
use Rattle.f11_fcp.specs.Places.{entry_of}
use Rattle.f11_fcp.proofs.table.Accesses.set_marks.Given as goal

abbrev pub invariant-loop-i : goal.invariant-loop-i
invariant-loop-i l =
    (k : ℕ) →
    option_map entry_of (slice_index_or l.self.places k None)
    ≡ (if nat_lt k l.i then option_map (marked_if l.file) (option_map entry_of (slice_index_or l.fn.self.places k None)) else option_map
    entry_of (slice_index_or l.fn.self.places k None))
