use Rattle.std.proofs.Common.{◌≡◌, ◌||◌, ℕ}
use Rattle.f11_vfy.specs.Surveying.Bits.{has, limit_of}
use Rattle.f11_vfy.specs.Surveying.Free.{has_bit}
use Rattle.f11_vfy.proofs.survey.space.add_bits.Given as goal

-- the bits so far are added
abbrev pub invariant-loop-k : goal.invariant-loop-k
invariant-loop-k l = record {
  limit : limit_of l.set ≡ limit_of l.fn.set;
  adds : (j : ℕ) → has l.set j ≡ (has l.fn.set j || has_bit l.block l.first l.k j);
}
