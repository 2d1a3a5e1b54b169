use Rattle.f11_chain.proofs.AlongLemmas.{locates, damage-outside}
use Rattle.f11_files.proofs.Finding.Locate.{fails-damaged, finds-block}
use Rattle.f11_files.proofs.structure.Structure.locate.Goals as goal

pub returns-in-Some-clause-found : goal.returns-in-Some-clause-found
returns-in-Some-clause-found g c =
    let reached = c.in_ok-place.ensures.reached in
    finds-block c.args.self.now c.args.f (g.D.Device.disk c.args.device.now) _ c.requires.is_for reached.there c.requires.own c.args.vbn _
    c.requires.some (locates _ _ _ _ _ _ _ reached.seeks _ (rw c.blocks-2.ensures.count at c.in-Some.ensures))

pub returns-in-None-clause-refused : goal.returns-in-None-clause-refused
returns-in-None-clause-refused g c =
    let reached = c.in_ok-place.ensures.reached in
    fails-damaged c.args.self.now c.args.f (g.D.Device.disk c.args.device.now) _ c.requires.is_for reached.there c.requires.own c.args.vbn
    (damage-outside _ _ _ _ _ _ _ reached.seeks (rw c.blocks-2.ensures.count at c.in-None.ensures))
