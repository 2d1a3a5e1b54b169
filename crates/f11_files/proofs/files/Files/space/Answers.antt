use Rattle.f11_files.proofs.Opening.Values.{files-for}
use Rattle.f11_files.proofs.Opening.Space.{space-is}
use Rattle.f11_files.proofs.files.Files.space.Goals as goal

pub returns-clause-told : goal.returns-clause-told
returns-clause-told g c = λ i. (c.free.ensures.told i, c.free_headers.ensures i, c.slots.ensures i)

pub returns-clause-space : goal.returns-clause-space
returns-clause-space g c = λ honest not.
    let for = files-for c.args.self.now (g.met.D.Device.is_image c.args.self.now.device) not in
    space-is c.args.self.now.structure _ for honest _ _ _ c.free.ensures.free c.free_headers.ensures c.slots.ensures
