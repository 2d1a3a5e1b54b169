use Rattle.std.proofs.Common.{Ok, Err}
use Rattle.f11_making.specs.Asking.{who_asks}
use Rattle.f11_making.specs.FilesPlan.{names_for}
use Rattle.f11_copying.proofs.CourseLemmas.{runs-one}
use Rattle.f11_copying.proofs.steps.ask_volume_for.Goals as goal

pub returns-in-Ok : goal.returns-in-Ok
returns-in-Ok g c = record {
  runs = runs-one g.S.Asked.service g.B.Blocks.gives (who_asks c.args.by.now.task c.args.by.now.uic) (names_for c.args.user c.args.request)
      (Ok c.in-Ok.id) c.args.service.now c.ask_file_for.new.service c.args.source.now c.in-Ok.ensures.goes;
}

pub returns-in-Err : goal.returns-in-Err
returns-in-Err g c = record {
  runs = runs-one g.S.Asked.service g.B.Blocks.gives (who_asks c.args.by.now.task c.args.by.now.uic) (names_for c.args.user c.args.request)
      (Err c.in-Err.refusal) c.args.service.now c.ask_file_for.new.service c.args.source.now c.in-Err.ensures.goes;
}
