use Rattle.std.proofs.Common.{◌∷◌, [], ap, subst, sym, Ok, ◌∙◌}
use Rattle.rt11_volume.specs.Files.{is_device_fault}
use Rattle.rt11_squeeze.specs.Kept.{volume_disk}
use Rattle.rt11_squeeze.specs.Moving.{move_transfers}
use Rattle.rt11_squeeze.specs.Squeezing.{IsTold, OnSound, TriesBy}
use Rattle.rt11_squeeze.specs.declared.way.Way.{Way}
use Rattle.rt11_squeeze.proofs.SqueezeLemmas.{preserves-more, tries-twice}
use Rattle.rt11_squeeze.proofs.squeezing.try_way.Goals as goal

pub returns-in-Twice : goal.returns-in-Twice
returns-in-Twice g c =
    let n = move_transfers c.args.file.now.blocks in
    record {
      preserves = preserves-more g.D.Device.disk (c.args.file.now ∷ []) n n c.try_move.result c.try_move-in-Twice.result c.args.volume.now
          c.try_move.new.volume c.try_move-in-Twice.new.volume (ap is_device_fault c.in-Ok-None.is)
          c.try_move.ensures.preserves c.try_move-in-Twice.ensures.preserves;
      tries = subst (λ (w : Way). OnSound (IsTold c.args.file.now) (volume_disk g.D.Device.disk c.args.volume.now)
          (TriesBy w c.args.file.now c.try_move-in-Twice.result (volume_disk g.D.Device.disk c.args.volume.now)
          (volume_disk g.D.Device.disk c.try_move-in-Twice.new.volume))) (sym c.in-Twice.is)
          (tries-twice g.D.Device.disk c.args.file.now n c.try_move.result c.try_move-in-Twice.result c.args.volume.now
          c.try_move.new.volume c.try_move-in-Twice.new.volume (c.in-Ok-None.is ∙ (λ t. Ok (c.in-Ok-None.field-0-is t)))
          c.try_move.ensures.preserves c.try_move.ensures.tries c.try_move-in-Twice.ensures.tries);
    }
