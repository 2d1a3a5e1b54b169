use Rattle.f11_making.proofs.VolumeLemmas.{standing, unused}
use Rattle.f11_flx.proofs.copy_laws.slots.Goals as goal

pub returns : goal.returns
returns g c = record { unused = unused c.args.volume.now; held = standing c.args.volume.now }
