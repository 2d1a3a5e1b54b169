use Rattle.std.proofs.Common.{inl, inr, ap, ◌∙◌, sym}
use Rattle.std.proofs.lemmas.Bool.{both_ways, not-true}
use Rattle.rt11_volume.specs.Segment.{segment_count, highest_segment}
use Rattle.rt11_volume.specs.declared.directory.Visited.{Visited}
use Rattle.rt11_volume.proofs.Verifying.Tests.{less-tells, above-tells, none-told}
use Rattle.rt11_volume.proofs.Walking.Places.{at-place}
use Rattle.rt11_volume.proofs.verifier.faults.is_highest_wrong.Goals as goal

pub returns-then-is_any_above : goal.returns-then-is_any_above
returns-then-is_any_above c = λ image is.
    let at = at-place image c.args.visited.now 0 is c.requires in
    let highest = c.highest-highest.ensures ∙ ap (λ (v : Visited). highest_segment v.segment) (c.visit_at.ensures ∙ at.first) in (
      λ yes. (
        none-told image c.is_any_wrong.result (c.is_any_wrong.ensures image is) c.if-not-is_any_wrong.true,
        inl ((above-tells image c.args.visited.now c.highest-highest.result is highest).0 (sym c.is_any_above.ensures ∙ yes)),
      ),
      λ _. c.if-is_any_above.true,
    )

pub returns-else-is_any_above : goal.returns-else-is_any_above
returns-else-is_any_above c = λ image is.
    let at = at-place image c.args.visited.now 0 is c.requires in
    let highest = c.highest-highest.ensures ∙ ap (λ (v : Visited). highest_segment v.segment) (c.visit_at.ensures ∙ at.first) in
    let less = less-tells (c.count.ensures ∙ ap (λ (v : Visited). segment_count v.segment) (c.visit_at.ensures ∙ at.first)) highest in (
      λ yes. (none-told image c.is_any_wrong.result (c.is_any_wrong.ensures image is) c.if-not-is_any_wrong.true, inr (less.0 yes)),
      λ wrong. elim wrong.1 [
        | inl below ↦ absurd (both_ways _ c.if-is_any_above.false
            (c.is_any_above.ensures ∙ (above-tells image c.args.visited.now c.highest-highest.result is highest).1 below))
        | inr more ↦ less.1 more
      ],
    )

pub returns-else-not-is_any_wrong : goal.returns-else-not-is_any_wrong
returns-else-not-is_any_wrong c = λ image is.
    let some = (c.is_any_wrong.ensures image is).0 c.if-not-is_any_wrong.false in
    (λ none. absurd (both_ways _ (not-true _ none) c.if-not-is_any_wrong.false), λ wrong. absurd (wrong.0 some.0 some.1))
