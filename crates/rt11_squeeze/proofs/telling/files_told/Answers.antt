use Rattle.std.proofs.Common.{List, ◌∙◌, refl, subst, sym}
use Rattle.rt11_volume.specs.declared.refusal.RtRefusal.TheVariants.{DeviceFault, NoMemory}
use Rattle.rt11_squeeze.specs.Telling.{TellsAll}
use Rattle.rt11_squeeze.specs.declared.moving.FileToMove.{FileToMove}
use Rattle.rt11_squeeze.proofs.TellLemmas.{tells-all, tells-none, untold}
use Rattle.rt11_squeeze.proofs.telling.files_told.Goals as goal

pub returns-in-Ok-Read-clause-tells : goal.returns-in-Ok-Read-clause-tells
returns-in-Ok-Read-clause-tells g c =
    let disk = g.D.Device.disk in
    let read = rw c.in-Ok-Read.field-0-is at c.in-Ok-Read.ensures.surveys in
    tells-all c.as_slice.result.now (disk c.args.device.now) (disk c.survey.new.device) (disk c.told_all.new.device) c.told_all.result
    read.looked (λ honest. c.as_slice.ensures ∙ read.entries_are honest) c.told_all.ensures.looked c.told_all.ensures.tells
    c.told_all.ensures.exact

pub returns-in-Ok-Unreadable-clause-tells : goal.returns-in-Ok-Unreadable-clause-tells
returns-in-Ok-Unreadable-clause-tells g c =
    let disk = g.D.Device.disk in
    let finds = rw c.in-Ok-Unreadable.field-0-is at c.in-Ok-Unreadable.ensures.surveys in
    subst (λ (files : List FileToMove). TellsAll files (disk c.args.device.now) (disk c.survey.new.device)) (sym c.new.ensures.items)
    (tells-none (disk c.args.device.now) (disk c.survey.new.device) finds.unsized finds.rejects.all.looked)

pub returns-in-Err-DeviceFault-clause-failed : goal.returns-in-Err-DeviceFault-clause-failed
returns-in-Err-DeviceFault-clause-failed g c =
    let looked = rw c.in-Err-DeviceFault.field-0-is at c.in-Err-DeviceFault.ensures.failed in
    untold DeviceFault (g.D.Device.disk c.args.device.now) (g.D.Device.disk c.survey.new.device) looked (λ none. absurd (cc))

pub returns-clause-failed : goal.returns-clause-failed
returns-clause-failed g c =
    let looked = rw c.in-Err-NoMemory.field-0-is at c.in-Err-NoMemory.ensures.failed in
    untold NoMemory (g.D.Device.disk c.args.device.now) (g.D.Device.disk c.survey.new.device) looked (λ none. refl)
