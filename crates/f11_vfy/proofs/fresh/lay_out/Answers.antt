use Rattle.std.proofs.Common.{◌<◌, ◌+◌, ◌≡◌, length, arith, subst, ℕ}
use Rattle.f11_bytes.proofs.ResultLemmas.{OnErr-given}
use Rattle.f11_vfy.proofs.LayLemmas.{LaysUpTo, LaysUpTo-none, LaysUpTo-more, LaysUpTo-failed, LaysUpTo-home, LaysUpTo-unmade}
use Rattle.f11_volume.specs.Fresh.{used_by}
use Rattle.f11_vfy.proofs.fresh.lay_out.Goals as goal

pub returns-in_err-lay-clause-failed : goal.returns-in_err-lay-clause-failed
returns-in_err-lay-clause-failed g c =
    let old = g.D.Device.disk c.args.device.now in
    OnErr-given _ (LaysUpTo-failed c.args.layout.now 0 old old (LaysUpTo-none _ old) 0 (λ same. omega (arith, same)) (omega arith) _
    (omega arith) c.in_err-lay.ensures.failed)

pub loop-lbn-init : goal.loop-lbn-init
loop-lbn-init g c =
    let old = g.D.Device.disk c.args.device.now in
    LaysUpTo-more c.args.layout.now 0 old old (LaysUpTo-none _ old) 0 (λ same. omega (arith, same)) (omega arith) _ 2 (omega
    (arith, c.requires, c.args.layout.now.valid.room)) (omega arith)
    (λ k under other differ. absurd (differ (omega (arith, under, other)))) c.in_ok-lay.ensures.done

pub returns-in_err-lay-2-clause-failed : goal.returns-in_err-lay-2-clause-failed
returns-in_err-lay-2-clause-failed g c =
    let below : c.loop-lbn.lbn < used_by c.args.layout.now = omega (arith, c.loop-lbn-test.true, c.used_blocks-lbn-end.ensures) in
    OnErr-given _ (LaysUpTo-failed c.args.layout.now c.loop-lbn.lbn _ _ c.loop-lbn.invariant c.loop-lbn.lbn (λ same. omega
    (arith, same, c.loop-lbn.auto)) below _ (omega (arith, below, c.loop-lbn.auto)) c.in_err-lay-2.ensures.failed)

pub loop-lbn-preserved : goal.loop-lbn-preserved
loop-lbn-preserved g c =
    let below : c.loop-lbn.lbn < used_by c.args.layout.now = omega (arith, c.loop-lbn-test.true, c.used_blocks-lbn-end.ensures) in
    let within : c.loop-lbn.lbn < length (g.D.Device.disk c.loop-lbn.device).image =
    omega (arith, below, c.loop-lbn.invariant.keeps.size, c.requires, c.args.layout.now.valid.room) in
    LaysUpTo-more c.args.layout.now c.loop-lbn.lbn _ _ c.loop-lbn.invariant c.loop-lbn.lbn (λ same. omega
    (arith, same, c.loop-lbn.auto)) below _ (c.loop-lbn.lbn + 1) within (omega (arith, c.loop-lbn.auto))
    (λ k under other differ. omega (arith, under, differ)) c.in_ok-lay-2.ensures.done

pub returns-in_err-lay-3-clause-failed : goal.returns-in_err-lay-3-clause-failed
returns-in_err-lay-3-clause-failed g c =
    let end : c.loop-lbn.lbn ≡ used_by c.args.layout.now = omega
    (arith, c.loop-lbn-test.false, c.loop-lbn.auto, c.used_blocks-lbn-end.ensures) in
    let within : 1 < length (g.D.Device.disk c.loop-lbn.device).image = omega
    (arith, c.loop-lbn.invariant.keeps.size, c.requires, c.args.layout.now.valid.room) in
    OnErr-given _ (LaysUpTo-unmade c.args.layout.now _ _ (subst (λ (k : ℕ). LaysUpTo c.args.layout.now k
    (g.D.Device.disk c.args.device.now)
    (g.D.Device.disk c.loop-lbn.device)) end c.loop-lbn.invariant) within _ c.in_err-lay-3.ensures.failed)

pub returns-clause-done : goal.returns-clause-done
returns-clause-done g c =
    let end : c.loop-lbn.lbn ≡ used_by c.args.layout.now = omega
    (arith, c.loop-lbn-test.false, c.loop-lbn.auto, c.used_blocks-lbn-end.ensures) in
    let within : 1 < length (g.D.Device.disk c.loop-lbn.device).image = omega
    (arith, c.loop-lbn.invariant.keeps.size, c.requires, c.args.layout.now.valid.room) in
    LaysUpTo-home c.args.layout.now _ _ (subst (λ (k : ℕ). LaysUpTo c.args.layout.now k (g.D.Device.disk c.args.device.now)
    (g.D.Device.disk c.loop-lbn.device)) end c.loop-lbn.invariant) within _ c.in_ok-lay-3.ensures.done
