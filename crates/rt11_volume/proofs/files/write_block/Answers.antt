use Rattle.std.proofs.Common.{ap, sym, subst, arith}
use Rattle.f11_dev.specs.Disk.{Disk}
use Rattle.f11_dev.specs.Went.{Went}
use Rattle.f11_dev.proofs.WentLemmas.{went_looked, went_write, went_failed_write, went_more, went_within}
use Rattle.rt11_volume.specs.Files.{HasBlockWritten}
use Rattle.rt11_volume.specs.declared.refusal.RtRefusal.TheVariants.{DeviceFault}
use Rattle.rt11_volume.proofs.AnswerLemmas.{faults-handed_on}
use Rattle.rt11_volume.proofs.BlockLemmas.{block-lands}
use Rattle.rt11_volume.proofs.Searching.Locating.{lies-written}
use Rattle.rt11_volume.proofs.files.write_block.Goals as goal

pub returns-in_err-lbn-clause-went : goal.returns-in_err-lbn-clause-went
returns-in_err-lbn-clause-went g c =
    let old = g.D.Device.disk c.args.device.now in
    let P = HasBlockWritten c.args.name c.args.place c.args.block.now old in
    subst (λ n. Went P old (g.D.Device.disk c.reach.new.device) 63 n)
    (sym (faults-handed_on c.from_residual.result c.in_err-lbn.field-0.0 c.from_residual.ensures.1))
    (went_within P (went_looked P c.in_err-lbn.ensures.looked) (omega arith))

pub returns-in_err-write-clause-went : goal.returns-in_err-write-clause-went
returns-in_err-write-clause-went g c =
    let old = g.D.Device.disk c.args.device.now in
    let now = g.D.Device.disk c.reach.new.device in
    let reached = c.in_ok-lbn.ensures in
    let P = HasBlockWritten c.args.name c.args.place c.args.block.now old in
    let lands = block-lands c.args.name c.args.place c.in_ok-lbn.lbn c.args.block.now old now.image reached.looked.image reached.within
    reached.found in
    subst (λ n. Went P old (g.D.Device.disk c.write.new.self) 63 n)
    (sym (faults-handed_on c.from_residual-in_err-write.result DeviceFault c.from_residual-in_err-write.ensures.1))
    (went_more P (went_looked P reached.looked)
    (went_failed_write P now _ c.in_ok-lbn.lbn c.args.block.now c.in_err-write.ensures.writes.err lands))

pub returns-clause-went : goal.returns-clause-went
returns-clause-went g c =
    let old = g.D.Device.disk c.args.device.now in
    let now = g.D.Device.disk c.reach.new.device in
    let reached = c.in_ok-lbn.ensures in
    let P = HasBlockWritten c.args.name c.args.place c.args.block.now old in
    let lands = block-lands c.args.name c.args.place c.in_ok-lbn.lbn c.args.block.now old now.image reached.looked.image reached.within
    reached.found in
    went_more P (went_looked P reached.looked) (went_write P now _ c.in_ok-lbn.lbn c.args.block.now c.in_ok-write.ensures.writes.ok lands)

pub returns-clause-written : goal.returns-clause-written
returns-clause-written g c =
    let old = g.D.Device.disk c.args.device.now in
    let now = g.D.Device.disk c.reach.new.device in
    let reached = c.in_ok-lbn.ensures in
    subst (HasBlockWritten c.args.name c.args.place c.args.block.now old) (sym (ap (λ (d : Disk). d.image) c.in_ok-write.ensures.writes.ok))
    (block-lands c.args.name c.args.place c.in_ok-lbn.lbn c.args.block.now old now.image reached.looked.image reached.within reached.found)

pub returns-clause-lies : goal.returns-clause-lies
returns-clause-lies g c = λ _.
    let old = g.D.Device.disk c.args.device.now in
    let now = g.D.Device.disk c.reach.new.device in
    let reached = c.in_ok-lbn.ensures in
    let written = subst (HasBlockWritten c.args.name c.args.place c.args.block.now old)
    (sym (ap (λ (d : Disk). d.image) c.in_ok-write.ensures.writes.ok))
    (block-lands c.args.name c.args.place c.in_ok-lbn.lbn c.args.block.now old now.image reached.looked.image reached.within reached.found)
    in
    lies-written c.args.name c.args.place c.args.block.now c.reach.new.last old _ written reached.lies
