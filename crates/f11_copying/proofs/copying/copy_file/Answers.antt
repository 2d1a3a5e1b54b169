use Rattle.f11_making.specs.Asking.{who_asks}
use Rattle.f11_copying.specs.Copies.{copies}
use Rattle.f11_copying.proofs.CarryLemmas.{carried-course}
use Rattle.f11_copying.proofs.TidyLemmas.{tidy-copies}
use Rattle.f11_copying.proofs.copying.copy_file.Goals as goal

pub returns : goal.returns
returns g c = record {
  carries = carried-course g.B.Blocks.gives (who_asks c.args.by.now.task c.args.by.now.uic)
      (copies c.args.file.now c.args.by.now.lun c.args.dir c.args.name.now) _ c.args.vol.now c.make_file.new.service c.args.source.now
      c.make_file.new.source (tidy-copies c.args.file.now c.args.by.now.lun c.args.dir c.args.name.now) c.make_file.ensures.runs;
}
