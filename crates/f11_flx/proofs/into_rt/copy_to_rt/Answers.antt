use Rattle.f11_making.specs.Asking.{who_asks}
use Rattle.f11_flx.proofs.ToRt.CopyingLemmas.{copies, ends, refuses, refuses-failed, target}
use Rattle.f11_flx.proofs.Made.RanLemmas.{files-told}
use Rattle.f11_flx.proofs.into_rt.copy_to_rt.Goals as goal

pub returns-clause-files : goal.returns-clause-files
returns-clause-files g c =
    files-told (who_asks c.args.task c.args.uic) c.args.lun c.args.name.now c.args.source g.E.Device.disk c.args.date c.args.mode
    c.copy_file.result c.args.vol.now
    c.copy_file.new.service c.args.rt.now c.copy_file.new.rt c.copy_file.ensures.copied c.copy_file.ensures.fails

pub returns-clause-target : goal.returns-clause-target
returns-clause-target g c =
    target g.E.Device.disk c.args.mode (who_asks c.args.task c.args.uic) c.args.lun c.args.source c.args.name.now c.args.date c.args.vol.now
    c.copy_file.new.service
    c.args.rt.now c.copy_file.new.rt c.copy_file.result c.copy_file.ensures.copied c.copy_file.ensures.fails

pub returns-clause-failed : goal.returns-clause-failed
returns-clause-failed g c = λ dead.
    refuses-failed g.E.Device.disk c.args.mode (who_asks c.args.task c.args.uic) c.args.lun c.args.source c.args.name.now c.args.date
    c.args.vol.now c.copy_file.new.service
    c.args.rt.now c.copy_file.new.rt c.copy_file.result c.copy_file.ensures.fails dead

pub returns-clause-ended : goal.returns-clause-ended
returns-clause-ended g c =
    ends g.E.Device.disk c.args.mode (who_asks c.args.task c.args.uic) c.args.lun c.args.source c.args.name.now c.args.date c.args.vol.now
    c.copy_file.new.service
    c.args.rt.now c.copy_file.new.rt c.copy_file.result c.copy_file.ensures.fails

pub returns-clause-copied : goal.returns-clause-copied
returns-clause-copied g c =
    copies g.E.Device.disk c.args.mode (who_asks c.args.task c.args.uic) c.args.lun c.args.source c.args.name.now c.args.date c.args.vol.now
    c.copy_file.new.service
    c.args.rt.now c.copy_file.new.rt c.copy_file.result c.copy_file.ensures.copied

pub returns-clause-refused : goal.returns-clause-refused
returns-clause-refused g c =
    refuses g.E.Device.disk c.args.mode (who_asks c.args.task c.args.uic) c.args.lun c.args.source c.args.name.now c.args.date
    c.args.vol.now c.copy_file.new.service
    c.args.rt.now c.copy_file.new.rt c.copy_file.result c.copy_file.ensures.fails
