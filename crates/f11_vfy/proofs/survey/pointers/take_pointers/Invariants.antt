use Rattle.std.proofs.Common.{◌≤◌, ◌+◌, ◌<◌, ℕ, take}
use Rattle.f11_header.specs.Fields.{map_area}
use Rattle.f11_map.specs.MapArea.{runs_of, blocks_in}
use Rattle.f11_vfy.specs.Surveying.Bits.{limit_of}
use Rattle.f11_vfy.specs.Surveying.Count.{Shows, times_among}
use Rattle.f11_findings.specs.Found.{Finds}
use Rattle.f11_vfy.specs.Surveying.Headers.{OutsideOf}
use Rattle.f11_vfy.proofs.survey.pointers.take_pointers.Given as goal

-- the pointers so far are taken
abbrev pub invariant-loop-i : goal.invariant-loop-i
invariant-loop-i l = record {
  room : limit_of l.initial.tally.once ≤ limit_of l.tally.once;
  named : (c : ℕ → ℕ) → Shows l.initial.tally c
      → Shows l.tally (λ x. c x + times_among (blocks_in (take l.i (runs_of (map_area l.block)))) x);
  outside : Finds (λ code a i. OutsideOf l.block l.n l.size code a i × (i < l.i)) l.initial.outside l.outside;
}
