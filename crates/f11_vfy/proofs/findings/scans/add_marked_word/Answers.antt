use Rattle.std.proofs.Common.{◌≡◌, ◌≤◌, ◌*◌, ◌∙◌, true, sym, arith}
use Rattle.f11_vfy.specs.Surveying.Bits.{has}
use Rattle.f11_findings.proofs.FoundLemmas.{finds-none, among-more, among-all}
use Rattle.f11_vfy.proofs.Surveying.Words.{zero-word}
use Rattle.f11_vfy.proofs.findings.scans.add_marked_word.Goals as goal

pub returns-then-word-eq0 : goal.returns-then-word-eq0
returns-then-word-eq0 c =
    finds-none _ _ (λ code a b f. zero-word _ c.args.i f.number (omega (arith, f.below)) f.holds.0 c.if-word-eq0.true
    (c.word.ensures f.number) f.holds.1)

pub loop-k-init : goal.loop-k-init
loop-k-init c = finds-none _ _ (λ code a b f. omega (arith, f.below, f.holds.0))

pub loop-k-preserved : goal.loop-k-preserved
loop-k-preserved c =
    among-more (λ k. (64 * c.args.i ≤ k) × (has c.args.marks.now k ≡ true)) _ c.loop-k.k c.contains.result _ _ _ c.loop-k.invariant
    (λ is. (c.loop-k.auto.k, sym c.contains.ensures ∙ is), λ h. c.contains.ensures ∙ h.1) c.in_ok-add_if.ensures.adds

pub returns : goal.returns
returns c = among-all _ _ c.loop-k.k _ _ _
    (omega (arith, c.requires, c.loop-k.auto.k-end, c.min-end.ensures, c.limit.ensures, c.limit.type_inv, c.saturating_add.ensures))
    (omega (arith, c.loop-k-test.false, c.min-end.ensures, c.limit.ensures, c.limit.type_inv, c.saturating_add.ensures)) c.loop-k.invariant
