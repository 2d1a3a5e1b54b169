use Rattle.std.proofs.Common.{◌≡◌, ◌+◌, ◌*◌, ◌∙◌, true, min, ap, arith}
use Rattle.f11_findings.specs.Finding.{finding}
use Rattle.f11_vfy.specs.Surveying.Bits.{limit_of}
use Rattle.f11_vfy.specs.Scanning.Scans.{is_lost, ends_lost, start_of}
use Rattle.f11_findings.proofs.FoundLemmas.{among-none, among-all, among-behind}
use Rattle.f11_vfy.proofs.findings.scans.add_lost.Goals as goal

pub loop-i-init : goal.loop-i-init
unfolding start_of
loop-i-init c =
    let none : 0 ≡ min (64 * 0) (limit_of c.args.free.now) = omega arith in
    record {
      start = ap (start_of (is_lost c.args.named.now c.args.free.now)) none;
      found = among-all _ _ 0 _ _ _ (omega arith) (omega arith) (among-none _ _ _);
    }

pub add_lost_word-requires-clause-start : goal.add_lost_word-requires-clause-start
add_lost_word-requires-clause-start c =
    let below : min (64 * c.loop-i.i) (limit_of c.args.free.now) ≡ 64 * c.loop-i.i =
    omega (arith, c.loop-i-test.true, c.div_ceil-i-end.ensures, c.limit.ensures) in
    c.loop-i.invariant.start ∙ ap (start_of (is_lost c.args.named.now c.args.free.now)) below

pub loop-i-preserved : goal.loop-i-preserved
loop-i-preserved c =
    let lost = is_lost c.args.named.now c.args.free.now in
    record {
      start = c.in_ok-start.ensures.next_is;
      found =
          among-behind (λ k. ends_lost c.args.named.now c.args.free.now k ≡ true) (λ k. finding 1 (start_of lost k) k) (64 * c.loop-i.i)
          (min (64 * c.loop-i.i) (limit_of c.args.free.now)) (min (64 * (c.loop-i.i + 1)) (limit_of c.args.free.now)) _ _ _
          (omega arith) (omega arith) (λ k low high. omega (arith, low, high)) c.loop-i.invariant.found c.in_ok-start.ensures.found;
    }

pub returns : goal.returns
returns c =
    among-all _ _ _ _ _ _ (omega arith) (omega (arith, c.loop-i-test.false, c.div_ceil-i-end.ensures, c.limit.ensures))
    c.loop-i.invariant.found
