use Rattle.std.proofs.Common.{◌+◌, List, sym, subst, arith, refl}
use Rattle.rt11_squeeze.specs.Kept.{volume_disk}
use Rattle.rt11_copy.specs.declared.outcome.RtCopied.{RtCopied}
use Rattle.rt11_copy.proofs.CopiesLemmas.{CopiedSoFar, copied-all, copied-more, copied-none, ended-at, ended-without, went-within}
use Rattle.rt11_copy.proofs.copies.copy_all.Goals as goal

pub loop-i-init : goal.loop-i-init
loop-i-init g c =
    let from = g.D.Device.disk c.args.from.now in
    let old = volume_disk g.E.Device.disk c.args.volume.now in
    record {
      fresh = c.requires.fresh;
      copied = subst (λ (outcomes : List RtCopied). CopiedSoFar c.args.entries.now 0 outcomes from from old old)
          (sym {A = List RtCopied} c.new-outcomes.ensures.items) (copied-none c.args.entries.now from old);
    }

pub returns-in-Err-clause-went : goal.returns-in-Err-clause-went
returns-in-Err-clause-went g c =
    let l = c.loop-i in
    went-within c.args.entries.now l.i l.outcomes.items (g.D.Device.disk c.args.from.now) (g.D.Device.disk l.from)
    (volume_disk g.E.Device.disk c.args.volume.now) (volume_disk g.E.Device.disk l.volume) l.invariant.copied c.index-entries-i.result
    c.loop-i-test.true c.index-entries-i.is (g.D.Device.disk c.copy_one.new.from) (volume_disk g.E.Device.disk c.copy_one.new.volume) 0
    c.in-Err.ensures.looked _ c.in-Err.ensures.went

pub returns-in-Err-clause-ended : goal.returns-in-Err-clause-ended
returns-in-Err-clause-ended g c =
    let l = c.loop-i in
    ended-at c.args.entries.now l.i l.outcomes.items (g.D.Device.disk c.args.from.now) (g.D.Device.disk l.from)
    (volume_disk g.E.Device.disk c.args.volume.now) (volume_disk g.E.Device.disk l.volume) l.invariant.copied c.index-entries-i.result
    c.loop-i-test.true c.index-entries-i.is (g.D.Device.disk c.copy_one.new.from) (volume_disk g.E.Device.disk c.copy_one.new.volume) 0
    c.in-Err.ensures.looked c.in-Err.refusal refl c.in-Err.ensures.ended.0 c.in-Err.ensures.ended.1

pub returns-in-Err-push_outcome-clause-went : goal.returns-in-Err-push_outcome-clause-went
returns-in-Err-push_outcome-clause-went g c =
    let l = c.loop-i in
    went-within c.args.entries.now l.i l.outcomes.items (g.D.Device.disk c.args.from.now) (g.D.Device.disk l.from)
    (volume_disk g.E.Device.disk c.args.volume.now) (volume_disk g.E.Device.disk l.volume) l.invariant.copied c.index-entries-i.result
    c.loop-i-test.true c.index-entries-i.is (g.D.Device.disk c.copy_one.new.from) (volume_disk g.E.Device.disk c.copy_one.new.volume) _
    c.in-Ok.ensures.looked 0 c.in-Ok.ensures.went

pub returns-in-Err-push_outcome-clause-ended : goal.returns-in-Err-push_outcome-clause-ended
returns-in-Err-push_outcome-clause-ended g c =
    let l = c.loop-i in
    ended-without c.args.entries.now (l.i + 1) _ (g.D.Device.disk c.args.from.now) (g.D.Device.disk c.copy_one.new.from)
    (volume_disk g.E.Device.disk c.args.volume.now) (volume_disk g.E.Device.disk c.copy_one.new.volume)
    (copied-more c.args.entries.now l.i l.outcomes.items (g.D.Device.disk c.args.from.now) (g.D.Device.disk l.from)
    (volume_disk g.E.Device.disk c.args.volume.now) (volume_disk g.E.Device.disk l.volume) l.invariant.copied c.index-entries-i.result
    c.loop-i-test.true c.index-entries-i.is (g.D.Device.disk c.copy_one.new.from) (volume_disk g.E.Device.disk c.copy_one.new.volume) _
    c.in-Ok.ensures.looked c.in-Ok.outcome refl c.in-Ok.ensures.went c.in-Ok.ensures.became c.in-Ok.ensures.keeps)
    (omega (arith, c.loop-i-test.true))

pub loop-i-preserved : goal.loop-i-preserved
loop-i-preserved g c =
    let l = c.loop-i in
    let from = g.D.Device.disk c.args.from.now in
    let read = g.D.Device.disk c.copy_one.new.from in
    let old = volume_disk g.E.Device.disk c.args.volume.now in
    let new = volume_disk g.E.Device.disk c.copy_one.new.volume in
    record {
      fresh = c.in-Ok.ensures.next;
      copied = subst (λ (outcomes : List RtCopied). CopiedSoFar c.args.entries.now (l.i + 1) outcomes from read old new)
          (sym {A = List RtCopied} c.in-Ok-push_outcome.ensures)
          (copied-more c.args.entries.now l.i l.outcomes.items from (g.D.Device.disk l.from) old (volume_disk g.E.Device.disk l.volume)
          l.invariant.copied c.index-entries-i.result c.loop-i-test.true c.index-entries-i.is read new _ c.in-Ok.ensures.looked
          c.in-Ok.outcome refl c.in-Ok.ensures.went c.in-Ok.ensures.became c.in-Ok.ensures.keeps);
    }

pub returns-clause-copies : goal.returns-clause-copies
returns-clause-copies g c =
    let l = c.loop-i in
    copied-all c.args.entries.now l.i l.outcomes.items (g.D.Device.disk c.args.from.now) (g.D.Device.disk l.from)
    (volume_disk g.E.Device.disk c.args.volume.now) (volume_disk g.E.Device.disk l.volume) l.invariant.copied
    (omega (arith, c.loop-i-test.false, l.auto.i-end))
