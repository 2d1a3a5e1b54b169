use Rattle.std.proofs.Common.{◌∙◌, ◌<◌, ◌≡◌, ap, subst, sym, arith, List, ℕ}
use Rattle.f11_dev.specs.Disk.{Disk}
use Rattle.f11_dev.proofs.LookedLemmas.{looked_none}
use Rattle.f11_dev.proofs.WentLemmas.{went_looked, went_write, went_failed_write, went_more, went_within}
use Rattle.std.specs.Prelude.{slice_set}
use Rattle.rt11_volume.specs.Directory.{start_of}
use Rattle.rt11_volume.specs.Fresh.{fresh_block, IsFreshDirectory, MayStand}
use Rattle.rt11_volume.proofs.FreshLemmas.{ClearsUpTo, ClearsUpTo-none, ClearsUpTo-more, ClearsUpTo-first, MayStand-cleared, MayStand-made}
use Rattle.rt11_volume.proofs.FreshLemmas.{OnErr-given}
use Rattle.rt11_volume.proofs.fresh.write_fresh.Goals as goal

pub loop-lbn-init : goal.loop-lbn-init
loop-lbn-init g c =
    let old = g.D.Device.disk c.args.device.now in
    record { clears = ClearsUpTo-none old.image; went = went_looked _ (looked_none old) }

pub returns-in_err-write-clause-failed : goal.returns-in_err-write-clause-failed
returns-in_err-write-clause-failed g c =
    let old = g.D.Device.disk c.args.device.now in
    let now = g.D.Device.disk c.loop-lbn.device in
    let P = MayStand c.args.segments old.image in
    let inside : c.loop-lbn.lbn < start_of c.args.segments = omega (arith, c.loop-lbn-test.true, c.loop-lbn.auto) in
    OnErr-given _ _ (went_within P
    (went_more P c.loop-lbn.invariant.went
    (went_failed_write P now _ c.loop-lbn.lbn c.zeros-nothing.result c.in_err-write.ensures.writes.err
    (MayStand-cleared c.args.segments c.loop-lbn.lbn old.image now.image _ (omega
    (arith, c.loop-lbn.auto)) inside c.loop-lbn.invariant.clears))) (omega (arith, inside)))

pub loop-lbn-preserved : goal.loop-lbn-preserved
loop-lbn-preserved g c =
    let old = g.D.Device.disk c.args.device.now in
    let now = g.D.Device.disk c.loop-lbn.device in
    let P = MayStand c.args.segments old.image in
    let inside : c.loop-lbn.lbn < start_of c.args.segments = omega (arith, c.loop-lbn-test.true, c.loop-lbn.auto) in
    let image = ap (λ (d : Disk). d.image) c.in_ok-write.ensures.writes.ok ∙ ap (λ
    (b : List ℕ). slice_set now.image c.loop-lbn.lbn b) c.zeros-nothing.ensures in
    record {
      clears = ClearsUpTo-more c.loop-lbn.lbn old.image now.image _ (omega (arith, c.loop-lbn.auto)) (omega
          (arith, inside, c.requires.room)) image c.loop-lbn.invariant.clears;
      went = went_within P
          (went_more P c.loop-lbn.invariant.went (went_write P now _ c.loop-lbn.lbn c.zeros-nothing.result c.in_ok-write.ensures.writes.ok
          (MayStand-cleared c.args.segments c.loop-lbn.lbn old.image now.image _ (omega
          (arith, c.loop-lbn.auto)) inside c.loop-lbn.invariant.clears))) (omega (arith, c.loop-lbn.auto));
    }

pub returns-in_err-write-2-clause-failed : goal.returns-in_err-write-2-clause-failed
returns-in_err-write-2-clause-failed g c =
    let old = g.D.Device.disk c.args.device.now in
    let now = g.D.Device.disk c.loop-lbn.device in
    let P = MayStand c.args.segments old.image in
    let end : c.loop-lbn.lbn ≡ start_of c.args.segments = omega (arith, c.loop-lbn-test.false, c.loop-lbn.auto, c.requires.some) in
    let block = c.fresh_block-first.ensures ∙ ap (fresh_block c.args.segments) (c.blocks-2.ensures.count
    ∙ c.loop-lbn.invariant.clears.size) in
    let made = subst (λ (b : List ℕ). IsFreshDirectory c.args.segments old.image (slice_set now.image 6 b)) (sym block)
    (ClearsUpTo-first c.args.segments old.image now.image c.requires.some (omega (arith, c.requires.room))
    (subst (λ (k : ℕ). ClearsUpTo k old.image now.image) end c.loop-lbn.invariant.clears)) in
    OnErr-given _ _ (went_within P (went_more P c.loop-lbn.invariant.went
    (went_failed_write P now _ 6 c.fresh_block-first.result c.in_err-write-2.ensures.writes.err
    (MayStand-made c.args.segments old.image _ made))) (omega (arith, end, c.requires.some)))

pub returns-clause-written : goal.returns-clause-written
returns-clause-written g c =
    let old = g.D.Device.disk c.args.device.now in
    let now = g.D.Device.disk c.loop-lbn.device in
    let P = MayStand c.args.segments old.image in
    let end : c.loop-lbn.lbn ≡ start_of c.args.segments = omega (arith, c.loop-lbn-test.false, c.loop-lbn.auto, c.requires.some) in
    let block = c.fresh_block-first.ensures ∙ ap (fresh_block c.args.segments) (c.blocks-2.ensures.count
    ∙ c.loop-lbn.invariant.clears.size) in
    let made = subst (λ (b : List ℕ). IsFreshDirectory c.args.segments old.image (slice_set now.image 6 b)) (sym block)
    (ClearsUpTo-first c.args.segments old.image now.image c.requires.some (omega (arith, c.requires.room))
    (subst (λ (k : ℕ). ClearsUpTo k old.image now.image) end c.loop-lbn.invariant.clears)) in
    record {
      fresh = subst (IsFreshDirectory c.args.segments old.image) (sym (ap (λ (d : Disk). d.image) c.in_ok-write-2.ensures.writes.ok)) made;
      went = went_within P (went_more P c.loop-lbn.invariant.went
          (went_write P now _ 6 c.fresh_block-first.result c.in_ok-write-2.ensures.writes.ok
          (MayStand-made c.args.segments old.image _ made))) (omega (arith, end, c.requires.some));
    }
