use Rattle.std.proofs.Common.{◌≡◌, ℕ, ◌<◌, false, slice_index}
use Rattle.rt11_volume.specs.Entry.{is_end}
use Rattle.rt11_volume.specs.Segment.{entry_place, extra_bytes}
use Rattle.rt11_volume.proofs.segment.Segment.has_end.Given as goal

-- no end mark so far
abbrev pub invariant-loop-i : goal.invariant-loop-i
invariant-loop-i l =
    (k : ℕ) → k < l.i → entry_place (extra_bytes l.self) k < 512 → is_end (slice_index l.self (entry_place (extra_bytes l.self) k)) ≡ false
