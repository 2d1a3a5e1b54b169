use Rattle.std.proofs.Common.{◌≡◌, ℕ, ◌+◌, ◌*◌, min, max}
use Rattle.f11_vfy.specs.Surveying.Bits.{limit_of}
use Rattle.f11_vfy.specs.Surveying.Count.{Shows, within}
use Rattle.f11_vfy.proofs.survey.tally.Tally.mark_run.Given as goal

-- the numbers of the words so far are marked
abbrev pub invariant-loop-i : goal.invariant-loop-i
invariant-loop-i l = record {
  limit : limit_of l.self.once ≡ limit_of l.initial.self.once;
  shows : (c : ℕ → ℕ) → Shows l.initial.self c → Shows l.self (λ x. c x + within l.first (max l.first (min (64 * l.i) l.end)) x);
}
