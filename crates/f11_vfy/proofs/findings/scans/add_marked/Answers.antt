use Rattle.std.proofs.Common.{◌≡◌, ◌+◌, ◌*◌, true, min, arith}
use Rattle.f11_findings.specs.Finding.{finding}
use Rattle.f11_vfy.specs.Surveying.Bits.{has, limit_of}
use Rattle.f11_findings.proofs.FoundLemmas.{among-none, among-all, among-behind}
use Rattle.f11_vfy.proofs.findings.scans.add_marked.Goals as goal

pub loop-i-init : goal.loop-i-init
loop-i-init c = among-all _ _ 0 _ _ _ (omega arith) (omega arith) (among-none _ _ _)

pub loop-i-preserved : goal.loop-i-preserved
loop-i-preserved c =
    among-behind (λ k. has c.args.marks.now k ≡ true) (λ k. finding c.args.code k 0) (64 * c.loop-i.i)
    (min (64 * c.loop-i.i) (limit_of c.args.marks.now)) (min (64 * (c.loop-i.i + 1)) (limit_of c.args.marks.now)) _ _ _
    (omega arith) (omega arith) (λ k low high. omega (arith, low, high)) c.loop-i.invariant c.in_ok-add_marked_word.ensures

pub returns : goal.returns
returns c =
    among-all _ _ _ _ _ _ (omega arith) (omega (arith, c.loop-i-test.false, c.div_ceil-i-end.ensures, c.limit.ensures)) c.loop-i.invariant
