use Rattle.f11_chain.proofs.AlongLemmas.{damage-past, finds-window}
use Rattle.f11_files.proofs.Finding.Locate.{fails-damaged}
use Rattle.f11_files.proofs.Finding.Windows.{finds-file-window}
use Rattle.f11_files.proofs.structure.Structure.window.Goals as goal

pub returns-in-Some-clause-found : goal.returns-in-Some-clause-found
returns-in-Some-clause-found g c =
    let reached = c.in_ok-place.ensures.reached in
    finds-file-window c.args.self.now c.args.f (g.D.Device.disk c.args.device.now) _ c.requires.is_for reached.there c.requires.id
    c.args.vbn _
    (g.met.D.Device.is_image c.args.device.now)
    (finds-window _ _ _ _ _ _ _ reached.seeks c.requires.some _ (rw c.blocks-2.ensures.count at c.in-Some.ensures))

pub returns-in-None-clause-refused : goal.returns-in-None-clause-refused
returns-in-None-clause-refused g c =
    let reached = c.in_ok-place.ensures.reached in
    fails-damaged c.args.self.now c.args.f (g.D.Device.disk c.args.device.now) _ c.requires.is_for reached.there c.requires.id.number
    c.args.vbn
    (damage-past _ _ _ _ _ _ _ reached.seeks c.requires.some (g.met.D.Device.is_image c.args.device.now)
    (rw c.blocks-2.ensures.count at c.in-None.ensures))
