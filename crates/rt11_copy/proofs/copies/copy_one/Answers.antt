use Rattle.rt11_squeeze.specs.Kept.{volume_disk}
use Rattle.rt11_copy.proofs.KeepLemmas.{keeps-copied}
use Rattle.rt11_copy.proofs.copies.copy_one.Goals as goal

pub returns-in-Ok-clause-keeps : goal.returns-in-Ok-clause-keeps
returns-in-Ok-clause-keeps g c =
    keeps-copied c.args.entry.now (g.D.Device.disk c.args.from.now) (volume_disk g.E.Device.disk c.args.volume.now)
    (volume_disk g.E.Device.disk c.copy_file.new.volume) c.in-Ok.ensures.copied
