use Rattle.std.proofs.Common.{◌+◌, length, ap, subst, arith}
use Rattle.std.proofs.lemmas.Result.{on_err_weaker}
use Rattle.f11_dev.specs.Went.{Went}
use Rattle.f11_dev.proofs.WentLemmas.{went_within}
use Rattle.rt11_volume.specs.Segment.{entries, extra_bytes}
use Rattle.rt11_volume.specs.Rewriting.Split.{KeepsSplit}
use Rattle.rt11_volume.proofs.Rewriting.Edit.{ends-room, room-fewer}
use Rattle.rt11_volume.proofs.FreshLemmas.{OnErr-given}
use Rattle.rt11_volume.proofs.Splitting.Disk.{two-written, three-written}
use Rattle.rt11_volume.proofs.create.split.split_here.Goals as goal

pub half-back-requires-clause-room : goal.half-back-requires-clause-room
half-back-requires-clause-room g c =
    let s = c.args.found.now.segment in
    let x = extra_bytes s in
    room-fewer x _ (length (entries x s)) (omega (arith, c.entry_count-count.ensures.count, c.requires.some))
    (ends-room x s c.requires.ends)

pub half-front-requires-clause-room : goal.half-front-requires-clause-room
half-front-requires-clause-room g c =
    let s = c.args.found.now.segment in
    let x = extra_bytes s in
    room-fewer x _ (length (entries x s)) (omega (arith, c.entry_count-count.ensures.count, c.requires.some))
    (ends-room x s c.requires.ends)

pub returns-in_err-write_first-clause-failed : goal.returns-in_err-write_first-clause-failed
returns-in_err-write_first-clause-failed g c =
    let old = g.D.Device.disk c.args.device.now in
    let new = g.D.Device.disk c.write_first.new.device in
    let next = ap (λ n. n + 1) c.highest-number.ensures in
    OnErr-given _ _ (subst (λ n. Went (KeepsSplit c.args.found.now.number n old.image) old new 6 1) next
    (went_within _ (two-written c.args.found.now.number (c.highest-number.result + 1) 1 _ c.in_ok-write.ensures.written
    c.in_err-write_first.ensures.failed) (omega arith)))

pub returns-clause-failed : goal.returns-clause-failed
returns-clause-failed g c =
    let old = g.D.Device.disk c.args.device.now in
    let new = g.D.Device.disk c.write-2.new.device in
    let next = ap (λ n. n + 1) c.highest-number.ensures in
    on_err_weaker _ (λ failed. subst (λ n. Went (KeepsSplit c.args.found.now.number n old.image) old new 6 1) next
    (three-written c.args.found.now.number (c.highest-number.result + 1) 1 _ _ c.in_ok-write.ensures.written
    c.in_ok-write_first.ensures.written failed)) c.write-2.ensures.failed
