use Rattle.std.proofs.Common.{◌∙◌}
use Rattle.rt11_volume.proofs.Verifying.Sound.{sound_from}
use Rattle.rt11_volume.proofs.BlockLemmas.{block-read}
use Rattle.rt11_volume.proofs.files.read_block.Goals as goal

pub returns-clause-read : goal.returns-clause-read
returns-clause-read g c = λ sound.
    let old = g.D.Device.disk c.args.device.now in
    let looked = c.in_ok-lbn.ensures.looked in
    block-read c.args.name old.image _ c.args.place c.in_ok-lbn.lbn _ (sound_from old.image sound.accepted) looked.image
    (c.in_ok-lbn.ensures.found sound) (c.in_ok-read.ensures.reads.gives (looked.honest ∙ sound.honest))
