use Rattle.std.proofs.Common.{◌≡◌, ◌*◌, ◌||◌, ℕ}
use Rattle.f11_vfy.specs.Surveying.Bits.{has, limit_of}
use Rattle.f11_vfy.specs.Surveying.Free.{has_bit}
use Rattle.f11_vfy.proofs.survey.space.add_words.Given as goal

-- the bits of the words so far are added
abbrev pub invariant-loop-i : goal.invariant-loop-i
invariant-loop-i l = record {
  limit : limit_of l.set ≡ limit_of l.initial.set;
  adds : (j : ℕ) → has l.set j ≡ (has l.initial.set j || has_bit l.block l.first (16 * l.i) j);
}
