use Rattle.std.proofs.Common.{◌≡◌, ◌≤◌, ◌<◌, ℕ, ◌-◌, ◌*◌, ◌+◌, ◌∙◌, min, true, ap, sym, arith}
use Rattle.f11_vfy.specs.Surveying.Bits.{limit_of}
use Rattle.f11_vfy.specs.Scanning.Scans.{is_lost, ends_lost, start_of}
use Rattle.f11_findings.proofs.FoundLemmas.{finds-none, among-all, among-more}
use Rattle.f11_vfy.proofs.Scanning.Lost.{start-stays, start-moves, known-not_lost, no-runs, starts-behind}
use Rattle.f11_vfy.proofs.Surveying.Words.{full-words}
use Rattle.f11_vfy.proofs.findings.scans.add_lost_word.Goals as goal
use Rattle.f11_vfy.proofs.findings.scans.add_lost_word.Goals.{then-not-is_lost, else-not-is_lost}

pub loop-k-init : goal.loop-k-init
loop-k-init c = record { start = c.requires.start; found = finds-none _ _ (λ code a b f. omega (arith, f.below, f.holds.0)) }

pub loop-k-preserved : goal.loop-k-preserved
loop-k-preserved c =
    let lost = is_lost c.args.named.now c.args.free.now in
    record {
      start = elim c.if-not-is_lost.branch [
        | then-not-is_lost w ↦ w.start-is ∙ start-moves lost c.loop-k.k (sym c.is_lost.ensures ∙ w.if-not-is_lost.true)
        | else-not-is_lost w ↦ w.start-is
            ∙ start-stays lost c.loop-k.k c.loop-k.start (sym c.is_lost.ensures ∙ w.if-not-is_lost.false) c.loop-k.invariant.start
      ];
      found =
          among-more (λ k. (64 * c.args.i ≤ k) × (ends_lost c.args.named.now c.args.free.now k ≡ true)) _ c.loop-k.k _ _ _ _
          c.loop-k.invariant.found
          (λ is. (c.loop-k.auto.k, sym c.ends_lost-ends.ensures ∙ is), λ h. c.ends_lost-ends.ensures ∙ h.1)
          (rw c.loop-k.invariant.start at c.in_ok-add_if.ensures.adds);
    }

pub returns-then-word : goal.returns-then-word
returns-then-word c =
    let lost = is_lost c.args.named.now c.args.free.now in
    let here = λ (k : ℕ) (from : 64 * c.args.i ≤ k) (below : k < c.min-end.result).
    known-not_lost c.args.named.now c.args.free.now k
    (full-words _ _ c.args.i k (omega (arith, below, c.min-end.ensures, c.saturating_add.ensures)) from c.if-word.true
    (c.word.ensures k) (c.word-2.ensures k)) in
    let end : c.min-end.result ≡ min (64 * (c.args.i + 1)) (limit_of c.args.free.now) =
    omega (arith, c.min-end.ensures, c.limit.ensures, c.limit.type_inv, c.saturating_add.ensures) in
    let last = here (c.min-end.result - 1) (omega (arith, end, c.requires.within)) (omega (arith, end, c.requires.within)) in
    record {
      next_is = starts-behind lost c.min-end.result (omega (arith, end, c.requires.within)) last ∙ ap (start_of lost) end;
      found = no-runs c.args.named.now c.args.free.now c.args.i _ c.args.found.now
          (λ k from below. here k from (omega (arith, below, end)));
    }

pub returns : goal.returns
returns c =
    let lost = is_lost c.args.named.now c.args.free.now in
    let end : c.loop-k.k ≡ min (64 * (c.args.i + 1)) (limit_of c.args.free.now) =
    omega (
      arith,
      c.requires.within,
      c.loop-k.auto.k-end,
      c.loop-k-test.false,
      c.min-end.ensures,
      c.limit.ensures,
      c.limit.type_inv,
      c.saturating_add.ensures,
    ) in
    record {
      next_is = c.loop-k.invariant.start ∙ ap (start_of lost) end;
      found = among-all _ _ c.loop-k.k _ _ _ (omega (arith, end)) (omega (arith, end)) c.loop-k.invariant.found;
    }
