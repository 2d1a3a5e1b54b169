use Rattle.f11_making.specs.Asking.{Who, who_asks}
use Rattle.f11_making.specs.Volume.{of_volume}
use Rattle.f11_flx.proofs.FromRt.EndedLemmas.{copy-ends}
use Rattle.f11_flx.proofs.FromRt.FromVolumeLemmas.{copy-made, copy-not-made, file-made, file-not-made, source-read, source-refused}
use Rattle.f11_flx.proofs.FromRt.SpentLemmas.{spent-made, spent-unmade}
use Rattle.f11_flx.proofs.from_rt.copy_from_rt.Goals as goal

pub returns-in-Ok-clause-source : goal.returns-in-Ok-clause-source
returns-in-Ok-clause-source g c =
    let who : Who = who_asks c.args.task c.args.uic in
    source-read g.E.Device.disk c.args.mode who c.args.lun c.args.name.now c.args.dir c.args.to.now c.args.protection c.args.rt.now
    c.copy_from.new.rt c.args.vol.now c.copy_from.new.service c.in-Ok.blocks c.in-Ok.ensures.copied

pub returns-in-Ok-clause-files : goal.returns-in-Ok-clause-files
returns-in-Ok-clause-files g c =
    let who : Who = who_asks c.args.task c.args.uic in
    file-made g.E.Device.disk c.args.mode who c.args.lun c.args.name.now c.args.dir c.args.to.now c.args.protection c.args.rt.now
    c.copy_from.new.rt c.args.vol.now c.copy_from.new.service c.in-Ok.blocks c.in-Ok.ensures.copied

pub returns-in-Ok-clause-spent : goal.returns-in-Ok-clause-spent
returns-in-Ok-clause-spent g c = λ dead.
    let who : Who = who_asks c.args.task c.args.uic in
    spent-made g.E.Device.disk c.args.mode who c.args.lun c.args.name.now c.args.dir c.args.to.now c.args.protection c.args.rt.now
    c.copy_from.new.rt c.args.vol.now c.copy_from.new.service dead c.in-Ok.blocks c.in-Ok.ensures.copied

pub returns-in-Ok-clause-copied : goal.returns-in-Ok-clause-copied
returns-in-Ok-clause-copied g c =
    let who : Who = who_asks c.args.task c.args.uic in
    copy-made g.E.Device.disk c.args.mode who c.args.lun c.args.name.now c.args.dir c.args.to.now c.args.protection c.args.rt.now
    c.copy_from.new.rt c.args.vol.now c.copy_from.new.service c.in-Ok.blocks c.in-Ok.ensures.copied

pub returns-in-Err-clause-source : goal.returns-in-Err-clause-source
returns-in-Err-clause-source g c =
    let who : Who = who_asks c.args.task c.args.uic in
    source-refused g.E.Device.disk c.args.mode who c.args.lun c.args.name.now c.args.dir c.args.to.now c.args.protection c.args.rt.now
    c.copy_from.new.rt c.args.vol.now c.copy_from.new.service c.in-Err.refusal c.in-Err.ensures.fails

pub returns-in-Err-clause-files : goal.returns-in-Err-clause-files
returns-in-Err-clause-files g c =
    let who : Who = who_asks c.args.task c.args.uic in
    file-not-made g.E.Device.disk c.args.mode who c.args.lun c.args.name.now c.args.dir c.args.to.now c.args.protection c.args.rt.now
    c.copy_from.new.rt c.args.vol.now c.copy_from.new.service c.in-Err.refusal c.in-Err.ensures.fails

pub returns-in-Err-clause-spent : goal.returns-in-Err-clause-spent
returns-in-Err-clause-spent g c = λ dead.
    let who : Who = who_asks c.args.task c.args.uic in
    spent-unmade g.E.Device.disk c.args.mode who c.args.lun c.args.name.now c.args.dir c.args.to.now c.args.protection c.args.rt.now
    c.copy_from.new.rt c.args.vol.now c.copy_from.new.service dead c.in-Err.refusal c.in-Err.ensures.fails

pub returns-in-Err-clause-refused : goal.returns-in-Err-clause-refused
returns-in-Err-clause-refused g c =
    let who : Who = who_asks c.args.task c.args.uic in
    copy-not-made g.E.Device.disk c.args.mode who c.args.lun c.args.name.now c.args.dir c.args.to.now c.args.protection c.args.rt.now
    c.copy_from.new.rt c.args.vol.now c.copy_from.new.service c.in-Err.refusal c.in-Err.ensures.fails

pub returns-in-Err-clause-ended : goal.returns-in-Err-clause-ended
returns-in-Err-clause-ended g c =
    let who : Who = who_asks c.args.task c.args.uic in
    copy-ends of_volume g.E.Device.disk c.args.mode who c.args.lun c.args.name.now c.in-Err.refusal c.args.dir c.args.to.now
    c.args.protection c.args.rt.now c.copy_from.new.rt c.args.vol.now c.copy_from.new.service c.in-Err.ensures.fails
