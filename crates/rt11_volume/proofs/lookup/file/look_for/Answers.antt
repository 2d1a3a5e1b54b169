use Rattle.std.proofs.Common.{◌∙◌, refl, ap, min}
use Rattle.rt11_volume.proofs.Verifying.Sound.{sound_from}
use Rattle.rt11_volume.proofs.Searching.Locating.{located}
use Rattle.rt11_volume.proofs.lookup.file.look_for.Goals as goal

pub returns-clause-found : goal.returns-clause-found
returns-clause-found g c = record {
  named = refl;
  lies = λ sound.
      let image = (g.D.Device.disk c.args.device.now).image in
      located image c.in_ok-found.found _ (sound_from image sound.accepted) (c.in_ok-found.ensures.found.is_first sound)
      (c.min.ensures ∙ ap (λ n. min n 65535) c.start.ensures.start) c.entry.ensures.length;
}
