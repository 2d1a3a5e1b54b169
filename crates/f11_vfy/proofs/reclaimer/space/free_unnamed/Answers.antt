use Rattle.std.proofs.Common.{◌≡◌, length, subst, arith}
use Rattle.std.proofs.lemmas.Bool.{both_ways}
use Rattle.f11_bytes.proofs.ResultLemmas.{OnErr-given}
use Rattle.f11_vfy.specs.Reclaiming.Steps.{FreesUnnamed}
use Rattle.f11_vfy.specs.Scanning.Reading.{bitmap_at}
use Rattle.f11_vfy.proofs.Reclaiming.Space.{space-none, space-same, placed-still, space-more, space-fail}
use Rattle.f11_vfy.proofs.reclaimer.space.free_unnamed.Goals as goal

pub loop-i-init : goal.loop-i-init
loop-i-init g c = space-none (bitmap_at c.args.places.now c.args.size) _ _ _ _ _

pub loop-i-preserved-then-not-is_to_change : goal.loop-i-preserved-then-not-is_to_change
loop-i-preserved-then-not-is_to_change g c =
    space-same (bitmap_at c.args.places.now c.args.size) _ _ _ _ c.loop-i.i _ _ c.loop-i.invariant
    (omega (arith, c.loop-i-test.true, c.loop-i.auto.i-end))
    (λ change. both_ways _ c.if-not-is_to_change.true (c.is_to_change.ensures.1 change))

pub write-requires : goal.write-requires
write-requires g c =
    placed-still (bitmap_at c.args.places.now c.args.size) _ _ _ _ c.loop-i.i _ _ c.loop-i.invariant
    (omega (arith, c.loop-i-test.true, c.loop-i.auto.i-end)) c.requires.within

pub returns-in_err-write-clause-failed : goal.returns-in_err-write-clause-failed
returns-in_err-write-clause-failed g c =
    OnErr-given _
    (space-fail (bitmap_at c.args.places.now c.args.size) _ _ _ _ c.loop-i.i _ _ _ c.loop-i.invariant c.wanted_bits-block.ensures.wanted
    c.wanted_bits-block.ensures.past (omega (arith, c.loop-i-test.true, c.loop-i.auto.i-end))
    (c.is_to_change.ensures.0 c.if-not-is_to_change.false) c.requires.within _ c.in_err-write.ensures.writes.err)

pub loop-i-preserved : goal.loop-i-preserved
loop-i-preserved g c =
    space-more (bitmap_at c.args.places.now c.args.size) _ _ _ _ c.loop-i.i _ _ _ c.loop-i.invariant c.wanted_bits-block.ensures.wanted
    c.wanted_bits-block.ensures.past (omega (arith, c.loop-i-test.true, c.loop-i.auto.i-end))
    (c.is_to_change.ensures.0 c.if-not-is_to_change.false) c.requires.within _ c.in_ok-write.ensures.writes.ok

pub returns-clause-freed : goal.returns-clause-freed
returns-clause-freed g c =
    let all : c.loop-i.i ≡ length c.args.places.now = omega (arith, c.loop-i-test.false, c.loop-i.auto.i-end) in
    subst (λ n. FreesUnnamed (bitmap_at c.args.places.now c.args.size) c.args.reading.now.free c.args.reading.now.survey.tally.once
    c.args.unreferenced.now c.args.last.now n (g.D.Device.disk c.args.device.now) (g.D.Device.disk c.loop-i.device))
    all c.loop-i.invariant
