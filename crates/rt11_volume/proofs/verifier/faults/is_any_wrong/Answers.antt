use Rattle.std.proofs.Common.{refl, ◌∙◌, sym, arith, below_more, false}
use Rattle.std.proofs.lemmas.Bool.{both_ways}
use Rattle.rt11_volume.specs.Verifying.Scans.{number_at}
use Rattle.rt11_volume.proofs.Verifying.Tests.{none-wrong}
use Rattle.rt11_volume.proofs.Walking.Places.{at-place, as-many}
use Rattle.rt11_volume.proofs.verifier.faults.is_any_wrong.Goals as goal

pub returns-then-is_wrong_at : goal.returns-then-is_wrong_at
returns-then-is_wrong_at c = λ image is.
    let at = at-place image c.args.visited.now c.loop-j.j is (omega arith) in (
      λ _. (
        number_at image c.loop-j.j,
        record {
          place = c.loop-j.j;
          visited_at = at.visited_at;
          wrong = sym (c.is_wrong_at.ensures image is) ∙ c.if-is_wrong_at.true;
        },
      ),
      λ _. refl,
    )

pub loop-j-preserved : goal.loop-j-preserved
loop-j-preserved c = λ image is. below_more _ _ (c.loop-j.invariant image is)
    (sym (c.is_wrong_at.ensures image is) ∙ c.if-is_wrong_at.false)

pub returns : goal.returns
returns c = λ image is. (
  λ no. absurd (both_ways false refl no),
  λ wrong. absurd (none-wrong image c.loop-j.j (omega (arith, as-many image c.args.visited.now is))
      (c.loop-j.invariant image is) wrong.0 wrong.1),
)
