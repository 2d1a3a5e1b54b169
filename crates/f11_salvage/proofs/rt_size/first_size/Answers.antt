use Rattle.std.proofs.Common.{◌∙◌, ap, arith}
use Rattle.rt11_copy.specs.Fitting.{is_at_least}
use Rattle.f11_salvage.proofs.SizeLemmas.{never-all, never-more}
use Rattle.f11_salvage.proofs.rt_size.first_size.Goals as goal

pub loop-segments-preserved : goal.loop-segments-preserved
loop-segments-preserved c =
    never-more c.args.need.now c.args.from c.loop-segments.segments c.loop-segments.invariant
    (λ blocks. c.blocks_for.ensures blocks ∙ ap (λ o. is_at_least o blocks) c.in_default.is)

pub returns-in-Some : goal.returns-in-Some
returns-in-Some c = record {
  behind = c.loop-segments.auto.segments;
  least = λ blocks. c.blocks_for.ensures blocks ∙ ap (λ o. is_at_least o blocks) c.in-Some.is;
  before = c.loop-segments.invariant;
}

pub returns : goal.returns
returns c =
    never-all c.args.need.now c.args.from c.loop-segments.segments c.loop-segments.invariant (omega (arith, c.loop-segments-test.false))
