use Rattle.std.proofs.lemmas.Result.{err_from_is_err_and}
use Rattle.f11_flx.specs.declared.refusal.FlxRefusal.TheVariants.{Files}
use Rattle.f11_commands.proofs.HandedLemmas.{mapped-err, mapped-ok}
use Rattle.f11_commands.proofs.NamedLemmas.{copied-to-rt, found-source, lacks-source}
use Rattle.f11_commands.proofs.copy.serving.copy_out.Goals as goal

pub returns-in_err-source : goal.returns-in_err-source
returns-in_err-source g c =
    let none = mapped-err Files c.find.result _ c.in_err-source.ensures.cases in
    let p = err_from_is_err_and c.from_residual.result c.from_residual.ensures.1 in
    record {
      answers = rw (p.1, p.2, none.2)
          (lacks-source g.E.Device.disk c.args.copy.now c.args.dir none.0 c.args.volume.now c.find.new.volume c.args.rt.now
          (rw none.1 at c.find.ensures.refused));
    }

pub returns : goal.returns
returns g c =
    let found = mapped-ok _ c.find.result _ c.in_ok-source.ensures.cases in
    record {
      answers =
          found-source g.E.Device.disk c.args.copy.now c.args.dir c.in_ok-source.source c.copy_to_rt.result c.args.volume.now
          c.find.new.volume c.copy_to_rt.new.vol
          c.args.rt.now c.copy_to_rt.new.rt (rw found at c.find.ensures.found)
          (copied-to-rt g.E.Device.disk c.args.copy.now c.first_task-task.result c.first_lun-lun.result c.first_task-task.ensures
          c.first_lun-lun.ensures c.in_ok-source.source
          c.copy_to_rt.result c.find.new.volume c.copy_to_rt.new.vol c.args.rt.now c.copy_to_rt.new.rt c.copy_to_rt.ensures.files
          c.copy_to_rt.ensures.target
          c.copy_to_rt.ensures.copied c.copy_to_rt.ensures.refused c.copy_to_rt.ensures.ended);
    }
