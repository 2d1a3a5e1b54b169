use Rattle.std.proofs.lemmas.Result.{err_from_is_err_and}
use Rattle.f11_flx.specs.declared.refusal.FlxRefusal.TheVariants.{Files}
use Rattle.f11_commands.specs.declared.copy.Direction.TheVariants.{FromRt, ToRt}
use Rattle.f11_commands.proofs.HandedLemmas.{mapped-err, mapped-ok}
use Rattle.f11_commands.proofs.NamedLemmas.{found-directory, lacks-directory}
use Rattle.f11_commands.proofs.copy.serving.copy_by_names.Goals as goal

pub returns-in_err-dir : goal.returns-in_err-dir
returns-in_err-dir g c =
    let none = mapped-err Files c.find.result _ c.in_err-dir.ensures.cases in
    let p = err_from_is_err_and c.from_residual.result c.from_residual.ensures.1 in
    record {
      answers = rw (p.1, p.2, none.2)
          (lacks-directory g.E.Device.disk c.args.copy.now c.directory_name-directory.result c.directory_name-directory.ensures none.0
          c.args.volume.now
          c.find.new.volume c.args.rt.now (rw none.1 at c.find.ensures.refused));
    }

pub returns-in-ToRt : goal.returns-in-ToRt
returns-in-ToRt g c =
    let found = mapped-ok _ c.find.result _ c.in_ok-dir.ensures.cases in
    record {
      answers =
          found-directory g.E.Device.disk c.args.copy.now ToRt c.in-ToRt.is c.directory_name-directory.result
          c.directory_name-directory.ensures c.in_ok-dir.dir
          c.copy_out.result c.args.volume.now c.find.new.volume c.copy_out.new.volume c.args.rt.now c.copy_out.new.rt
          (rw found at c.find.ensures.found)
          c.copy_out.ensures.answers;
    }

pub returns-in-FromRt : goal.returns-in-FromRt
returns-in-FromRt g c =
    let found = mapped-ok _ c.find.result _ c.in_ok-dir.ensures.cases in
    record {
      answers =
          found-directory g.E.Device.disk c.args.copy.now FromRt c.in-FromRt.is c.directory_name-directory.result
          c.directory_name-directory.ensures c.in_ok-dir.dir
          c.copy_in.result c.args.volume.now c.find.new.volume c.copy_in.new.volume c.args.rt.now c.copy_in.new.rt
          (rw found at c.find.ensures.found)
          c.copy_in.ensures.answers;
    }
