use Rattle.std.proofs.Common.{◌+◌, ◌∙◌, sym, ap, subst, take, ℕ, List}
use Rattle.f11_patterns.specs.Meant.{word_at}
use Rattle.f11_patterns.specs.Next.{IsTop}
use Rattle.f11_patterns.proofs.NextLemmas.{next-above, next-other}
use Rattle.f11_patterns.proofs.next.top_version.Goals.{then-is_above, else-is_above}
use Rattle.f11_patterns.proofs.next.top_version.Goals as goal

pub loop-one-preserved : goal.loop-one-preserved
loop-one-preserved c =
    let l = c.loop-one in
    let one = c.one-item in
    let Top = IsTop (take (l.one-index + 1) c.args.names.now) c.args.name.now in
    let test = c.loop-one-test.true in
    elim c.if-is_above.branch [
      | then-is_above w ↦
          subst Top (ap (λ (ws : List ℕ). word_at ws 4) (sym w.words.ensures.value) ∙ sym w.top-is)
          (next-above c.args.names.now c.args.name.now one.result l.top l.one-index test one.is l.invariant w.words.ensures.name
          (sym c.is_above.ensures ∙ w.if-is_above.true))
      | else-is_above w ↦
          subst Top (sym w.top-is)
          (next-other c.args.names.now c.args.name.now one.result l.top l.one-index test one.is l.invariant
          (sym c.is_above.ensures ∙ w.if-is_above.false))
    ]
