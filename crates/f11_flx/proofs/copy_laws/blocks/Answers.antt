use Rattle.f11_flx.proofs.WholeLemmas.{whole-blocks}
use Rattle.f11_flx.proofs.copy_laws.blocks.Goals as goal

pub returns : goal.returns
returns g c = record { whole = λ id. whole-blocks c.args.volume.now (g.met.D.Device.is_image c.args.volume.now.files.device) id }
