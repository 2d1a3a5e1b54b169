use Rattle.std.proofs.Common.{◌≡◌, subst, arith}
use Rattle.f11_bytes.proofs.ResultLemmas.{OnErr-given}
use Rattle.f11_index.specs.IndexFile.{slots}
use Rattle.f11_index.specs.Kept.{index_kept}
use Rattle.f11_vfy.specs.Reclaiming.Steps.{ClearsIdle}
use Rattle.f11_vfy.proofs.Reclaiming.Idle.{idle-none, idle-unused, idle-of_file, idle-more, idle-fail}
use Rattle.f11_vfy.proofs.reclaimer.idle.clear_idle.Goals.{then-not-in_use-via-then-not-in_use}
use Rattle.f11_vfy.proofs.reclaimer.idle.clear_idle.Goals.{then-not-in_use-via-else-not-in_use+then-in_file}
use Rattle.f11_vfy.proofs.reclaimer.idle.clear_idle.Goals as goal

pub loop-k-init : goal.loop-k-init
loop-k-init g c = idle-none (index_kept c.args.index.now) c.args.reading.now _

pub loop-k-preserved-then-not-in_use : goal.loop-k-preserved-then-not-in_use
loop-k-preserved-then-not-in_use g c = elim c.then-not-in_use.branch [
  | then-not-in_use-via-then-not-in_use w ↦
      idle-unused (index_kept c.args.index.now) c.args.reading.now c.loop-k.k _ _ _ c.loop-k.invariant
      (rw c.in_use.ensures at w.if-not-in_use.true)
  | then-not-in_use-via-else-not-in_use+then-in_file w ↦
      idle-of_file (index_kept c.args.index.now) c.args.reading.now c.loop-k.k _ _ _ c.loop-k.invariant
      (rw w.in_file.ensures at w.if-in_file.true)
]

pub returns-in_err-clear-clause-failed : goal.returns-in_err-clear-clause-failed
returns-in_err-clear-clause-failed g c =
    let fits = c.loop-k.index.valid.few_slots in
    OnErr-given _
    (idle-fail (index_kept c.args.index.now) c.args.reading.now c.loop-k.k _ _ _ c.loop-k.invariant
    (rw c.in_use.ensures at c.if-not-in_use.false) (rw c.in_file.ensures at c.if-in_file.false)
    (omega (arith, c.loop-k-test.true, c.slots-k-end.ensures)) (omega (arith, fits)) _ c.in_err-clear.ensures.failed)

pub loop-k-preserved : goal.loop-k-preserved
loop-k-preserved g c =
    let fits = c.loop-k.index.valid.few_slots in
    idle-more (index_kept c.args.index.now) c.args.reading.now c.loop-k.k _ _ _ c.loop-k.invariant
    (rw c.in_use.ensures at c.if-not-in_use.false) (rw c.in_file.ensures at c.if-in_file.false)
    (omega (arith, c.loop-k-test.true, c.slots-k-end.ensures)) (omega (arith, fits)) _ _ c.in_ok-clear.ensures.done

pub returns-clause-cleared : goal.returns-clause-cleared
returns-clause-cleared g c =
    let all : c.loop-k.k ≡ slots (index_kept c.args.index.now) =
    omega (arith, c.loop-k-test.false, c.loop-k.auto.k-end, c.slots-k-end.ensures) in
    subst (λ n. ClearsIdle (index_kept c.args.index.now) c.args.reading.now n (index_kept c.loop-k.index)
    (g.D.Device.disk c.args.device.now) (g.D.Device.disk c.loop-k.device)) all
    c.loop-k.invariant
