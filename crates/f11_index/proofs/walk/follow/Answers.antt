use Rattle.std.proofs.Common.{◌≡◌, ◌+◌, Some, length, rules, ap, subst, ◌∙◌, arith, ℕ}
use Rattle.f11_dev.proofs.LookedLemmas.{looked_none, looked_more, looked_within}
use Rattle.f11_index.specs.Walk.{Steps}
use Rattle.f11_index.proofs.FollowLemmas.{Walking, home_facts, looks, looks-out, steps_in, strays_from, follows_from, walking-first}
use Rattle.f11_index.proofs.FollowLemmas.{walking-next, walking-out}
use Rattle.f11_index.proofs.walk.follow.Goals as goal

pub overflow_add-due : goal.overflow_add-due
overflow_add-due g c =
    let old = g.D.Device.disk c.args.device.now in
    let facts = home_facts c.args.home.now (length old.image) c.requires.home in
    let image = g.met.D.Device.is_image c.args.device.now in
    omega (arith, facts.within, image.size, c.index_lbn.ensures, c.from.ensures, c.index_blocks.ensures)

pub loop-segment-init : goal.loop-segment-init
loop-segment-init g c = record {
  walking = walking-first _ _ _ _ _ _ c.requires.home c.requires.none.0 c.requires.none.1
      (ap (λ (n : ℕ). record { lbn = n; number = 1; sequence = 1 })
      (ap (λ (n : ℕ). n + c.from.result) c.index_lbn.ensures ∙ ap (λ (n : ℕ). c.args.home.now.index_lbn + n)
      (c.from.ensures ∙ c.index_blocks.ensures)));
  looked = looked_none _;
}

pub returns-in_err-next-clause-strays : goal.returns-in_err-next-clause-strays
returns-in_err-next-clause-strays g c = λ is.
    let loop = c.loop-segment.invariant in
    strays_from _ _ _ c.args.home.now c.args.bitmap.now c.loop-segment.due c.loop-segment.segment c.loop-segment.blocks loop.looked
    loop.walking c.requires.bitmap c.loop-segment-test.true
    (c.in_err-next.ensures.misfits (search rules))

pub returns-in_default-clause-follows : goal.returns-in_default-clause-follows
returns-in_default-clause-follows g c =
    let now = g.D.Device.disk c.loop-segment.device in
    let new = g.D.Device.disk c.step.new.device in
    let loop = c.loop-segment.invariant in
    let s = subst (λ n. Steps c.args.home.now c.args.bitmap.now c.loop-segment.due c.loop-segment.segment c.loop-segment.blocks
    c.step.new.blocks n now new) c.in_default.is c.in_ok-next.ensures.steps in
    follows_from _ now new c.args.home.now c.args.bitmap.now c.loop-segment.due c.loop-segment.segment c.loop-segment.blocks
    c.step.new.blocks loop.looked loop.walking c.requires.bitmap c.loop-segment-test.true s

pub loop-segment-preserved : goal.loop-segment-preserved
loop-segment-preserved g c =
    let old = g.D.Device.disk c.args.device.now in
    let now = g.D.Device.disk c.loop-segment.device in
    let new = g.D.Device.disk c.step.new.device in
    let loop = c.loop-segment.invariant in
    let s = subst (λ n. Steps c.args.home.now c.args.bitmap.now c.loop-segment.due c.loop-segment.segment c.loop-segment.blocks
    c.step.new.blocks n now new) c.in-Some.is c.in_ok-next.ensures.steps in
    record {
      walking =
          walking-next old.image old.honest c.args.home.now c.args.bitmap.now c.loop-segment.due c.loop-segment.segment
          c.loop-segment.blocks c.step.new.blocks loop.walking c.requires.bitmap c.loop-segment-test.true
          c.in-Some.next (steps_in old now new c.args.home.now c.args.bitmap.now c.loop-segment.due c.loop-segment.segment
          c.loop-segment.blocks c.step.new.blocks (Some c.in-Some.next) c.loop-segment.segment loop.looked s);
      looked = looked_more loop.looked s.looked;
    }

pub returns-clause-strays : goal.returns-clause-strays
returns-clause-strays g c = λ _.
    let old = g.D.Device.disk c.args.device.now in
    let loop = c.loop-segment.invariant in
    let all : c.loop-segment.segment ≡ 256 = omega arith in
    record {
      misplaced = λ honest. walking-out old.image old.honest c.args.home.now c.args.bitmap.now c.loop-segment.due c.loop-segment.blocks
          (subst (λ (n : ℕ). Walking old.image old.honest c.args.home.now c.args.bitmap.now c.loop-segment.due n c.loop-segment.blocks) all
          loop.walking) (g.met.D.Device.is_image c.args.device.now) honest;
      looked = looks-out _ _ c.args.home.now c.args.bitmap.now c.loop-segment.due c.loop-segment.blocks
          (looked_within loop.looked (omega arith))
          (subst (λ (n : ℕ). Walking old.image old.honest c.args.home.now c.args.bitmap.now c.loop-segment.due n c.loop-segment.blocks)
          all loop.walking);
    }

pub returns-in_err-next-clause-failed : goal.returns-in_err-next-clause-failed
returns-in_err-next-clause-failed g c = λ is.
    looks _ _ _ c.args.home.now c.args.bitmap.now c.loop-segment.due c.loop-segment.segment c.loop-segment.blocks 1
    c.loop-segment.invariant.looked c.loop-segment.invariant.walking c.loop-segment-test.true
    (c.in_err-next.ensures.failed (search rules))

pub returns-in_err-next-clause-memory : goal.returns-in_err-next-clause-memory
returns-in_err-next-clause-memory g c = λ is.
    looks _ _ _ c.args.home.now c.args.bitmap.now c.loop-segment.due c.loop-segment.segment c.loop-segment.blocks 0
    c.loop-segment.invariant.looked c.loop-segment.invariant.walking c.loop-segment-test.true
    (c.in_err-next.ensures.memory (search rules))
