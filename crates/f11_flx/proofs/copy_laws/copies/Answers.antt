use Rattle.std.proofs.Common.{refl}
use Rattle.f11_flx.proofs.ToRt.CopiedLemmas.{copied}
use Rattle.f11_flx.proofs.ToRt.RefusedLemmas.{refused}
use Rattle.f11_flx.proofs.ToRt.RtOutcomeLemmas.{file-leaves}
use Rattle.f11_flx.proofs.copy_laws.copies.Goals as goal

pub returns-clause-copied : goal.returns-clause-copied
returns-clause-copied g c = λ view is_sound seen m who lun file name count day old new rt' sound sound' h.
    copied g.S.Asked.service view is_sound seen g.E.Device.disk who lun file name count day old new c.args.rt.now rt' sound sound' m h

pub returns-clause-refused : goal.returns-clause-refused
returns-clause-refused g c = λ view is_sound seen m who lun file name day e old new rt' sound sound' clean h.
    refused g.S.Asked.service view is_sound seen who lun file name (view old) g.E.Device.disk day c.args.rt.now (λ alive. sound') m e old
    new rt' refl sound clean h

pub returns-clause-left : goal.returns-clause-left
returns-clause-left g c = λ m who lun file name day e old new rt' h.
    file-leaves g.E.Device.disk name g.S.Asked.service who lun file day m e old new c.args.rt.now rt' h
