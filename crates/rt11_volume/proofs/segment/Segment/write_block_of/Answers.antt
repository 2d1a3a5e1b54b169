use Rattle.std.proofs.Common.{◌+◌, ◌*◌, ap, sym, subst, rules}
use Rattle.f11_dev.specs.Disk.{Disk}
use Rattle.f11_dev.proofs.WentLemmas.{went_write, went_failed_write}
use Rattle.rt11_volume.specs.Rewriting.Overwriting.{HasBlockOf}
use Rattle.rt11_volume.proofs.FreshLemmas.{OnErr-given}
use Rattle.rt11_volume.proofs.Rewriting.Overwriting.{low-written, high-written}
use Rattle.rt11_volume.proofs.segment.Segment.write_block_of.Goals as goal

pub returns-in_err-write-clause-failed : goal.returns-in_err-write-clause-failed
returns-in_err-write-clause-failed g c =
    let old = g.D.Device.disk c.args.device.now in
    let lbn = 4 + 2 * c.from.result in
    let place = ap (λ n. 4 + 2 * n) c.from.ensures in
    OnErr-given _ _ (went_failed_write (HasBlockOf c.args.i c.args.k c.args.self.now old.image) old _ lbn _
    c.in_err-write.ensures.writes.err
    (low-written c.args.i c.args.k lbn old.image c.self.inside.low c.self.inside.high c.args.self.now c.self.view_is
    (g.met.D.Device.is_image c.args.device.now) place c.requires.on_device (search rules) c.if-i-lt-BLOCK_WORDS.true))

pub returns-then-i-lt-BLOCK_WORDS-clause-written : goal.returns-then-i-lt-BLOCK_WORDS-clause-written
returns-then-i-lt-BLOCK_WORDS-clause-written g c =
    let old = g.D.Device.disk c.args.device.now in
    let lbn = 4 + 2 * c.from.result in
    let place = ap (λ n. 4 + 2 * n) c.from.ensures in
    subst (HasBlockOf c.args.i c.args.k c.args.self.now old.image) (sym (ap (λ (d : Disk). d.image) c.in_ok-write.ensures.writes.ok))
    (low-written c.args.i c.args.k lbn old.image c.self.inside.low c.self.inside.high c.args.self.now c.self.view_is
    (g.met.D.Device.is_image c.args.device.now) place c.requires.on_device (search rules) c.if-i-lt-BLOCK_WORDS.true)

pub returns-then-i-lt-BLOCK_WORDS-clause-went : goal.returns-then-i-lt-BLOCK_WORDS-clause-went
returns-then-i-lt-BLOCK_WORDS-clause-went g c =
    let old = g.D.Device.disk c.args.device.now in
    let lbn = 4 + 2 * c.from.result in
    let place = ap (λ n. 4 + 2 * n) c.from.ensures in
    went_write (HasBlockOf c.args.i c.args.k c.args.self.now old.image) old _ lbn _ c.in_ok-write.ensures.writes.ok
    (low-written c.args.i c.args.k lbn old.image c.self.inside.low c.self.inside.high c.args.self.now c.self.view_is
    (g.met.D.Device.is_image c.args.device.now) place c.requires.on_device (search rules) c.if-i-lt-BLOCK_WORDS.true)

pub returns-in_err-write-2-clause-failed : goal.returns-in_err-write-2-clause-failed
returns-in_err-write-2-clause-failed g c =
    let old = g.D.Device.disk c.args.device.now in
    let lbn = 4 + 2 * c.from.result + 1 in
    let place = ap (λ n. 4 + 2 * n + 1) c.from.ensures in
    OnErr-given _ _ (went_failed_write (HasBlockOf c.args.i c.args.k c.args.self.now old.image) old _ lbn _
    c.in_err-write-2.ensures.writes.err
    (high-written c.args.i c.args.k lbn old.image c.self.inside.low c.self.inside.high c.args.self.now c.self.view_is
    (g.met.D.Device.is_image c.args.device.now) place c.requires.on_device (search rules) c.if-i-lt-BLOCK_WORDS.false c.requires.word))

pub returns-clause-written : goal.returns-clause-written
returns-clause-written g c =
    let old = g.D.Device.disk c.args.device.now in
    let lbn = 4 + 2 * c.from.result + 1 in
    let place = ap (λ n. 4 + 2 * n + 1) c.from.ensures in
    subst (HasBlockOf c.args.i c.args.k c.args.self.now old.image) (sym (ap (λ (d : Disk). d.image) c.in_ok-write-2.ensures.writes.ok))
    (high-written c.args.i c.args.k lbn old.image c.self.inside.low c.self.inside.high c.args.self.now c.self.view_is
    (g.met.D.Device.is_image c.args.device.now) place c.requires.on_device (search rules) c.if-i-lt-BLOCK_WORDS.false c.requires.word)

pub returns-clause-went : goal.returns-clause-went
returns-clause-went g c =
    let old = g.D.Device.disk c.args.device.now in
    let lbn = 4 + 2 * c.from.result + 1 in
    let place = ap (λ n. 4 + 2 * n + 1) c.from.ensures in
    went_write (HasBlockOf c.args.i c.args.k c.args.self.now old.image) old _ lbn _ c.in_ok-write-2.ensures.writes.ok
    (high-written c.args.i c.args.k lbn old.image c.self.inside.low c.self.inside.high c.args.self.now c.self.view_is
    (g.met.D.Device.is_image c.args.device.now) place c.requires.on_device (search rules) c.if-i-lt-BLOCK_WORDS.false c.requires.word)
