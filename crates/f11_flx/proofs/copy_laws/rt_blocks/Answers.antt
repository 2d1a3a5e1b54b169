use Rattle.rt11_volume.specs.Calls.{volume_device}
use Rattle.rt11_volume.proofs.Verifying.Sound.{sound_from}
use Rattle.f11_flx.specs.Target.{rt_disk}
use Rattle.f11_flx.proofs.RtFiles.RtBlockLemmas.{contents-whole}
use Rattle.f11_flx.proofs.copy_laws.rt_blocks.Goals as goal

pub returns : goal.returns
returns g c = record {
  whole = λ sound name file.
      let image = (rt_disk g.E.Device.disk c.args.rt.now).image in
      contents-whole name image file (g.met.E.Device.is_image (volume_device c.args.rt.now)) (sound_from image sound.accepted);
}
