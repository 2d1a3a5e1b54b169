use Rattle.std.proofs.Common.{◌≡◌, ◌<◌, ℕ, false, get_or, []}
use Rattle.rt11_volume.specs.Searching.Looking.{is_wanted}
use Rattle.rt11_volume.specs.Segment.{entries, extra_bytes}
use Rattle.rt11_volume.proofs.lookup.entry.first_in.Given as goal

-- none so far
abbrev pub invariant-loop-i : goal.invariant-loop-i
invariant-loop-i l = (k : ℕ) → k < l.i → is_wanted l.wanted (get_or (entries (extra_bytes l.segment) l.segment) k []) ≡ false
