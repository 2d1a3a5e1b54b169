use Rattle.std.proofs.Common.{◌≡◌, ◌+◌, length}
use Rattle.f11_vfy.specs.Surveying.Bits.{limit_of}
use Rattle.f11_vfy.specs.Chain.{points_at}
use Rattle.f11_vfy.specs.Surveying.Count.{Shows, sum_to}
use Rattle.f11_vfy.proofs.chains.tally_nexts.Given as goal

abbrev pub invariant-loop-k : goal.invariant-loop-k
invariant-loop-k l = record {
  limit : limit_of l.tally.once ≡ length l.nexts + 1;
  shows : Shows l.tally (λ m. sum_to (λ k. points_at l.in_file l.nexts k m) l.k);
}
