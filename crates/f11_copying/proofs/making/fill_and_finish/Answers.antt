use Rattle.std.proofs.Common.{◌==◌}
use Rattle.f11_making.specs.Asking.{who_asks}
use Rattle.f11_copying.specs.Copies.{fills_if, finishes}
use Rattle.f11_copying.specs.Courses.{both}
use Rattle.f11_copying.proofs.CourseLemmas.{ok-on, refused-first}
use Rattle.f11_copying.proofs.making.fill_and_finish.Goals as goal

pub returns-in_err-fill_file : goal.returns-in_err-fill_file
returns-in_err-fill_file g c =
    let file = c.args.file.now in
    record {
      runs = refused-first g.S.Asked.service g.B.Blocks.gives (who_asks c.args.by.now.task c.args.by.now.uic)
          (fills_if (file.blocks == 0) file.in_one_run c.args.by.now.lun file.blocks c.args.id)
          (λ x. finishes file c.args.dir c.args.name.now c.args.id) c.from_residual.result c.in_err-fill_file.field-0.0
          (both c.args.service.now c.args.source.now) (both c.fill_file.new.service c.fill_file.new.source)
          c.in_err-fill_file.ensures.runs c.from_residual.ensures.1;
    }

pub returns : goal.returns
returns g c =
    let file = c.args.file.now in
    record {
      runs = ok-on g.S.Asked.service g.B.Blocks.gives (who_asks c.args.by.now.task c.args.by.now.uic)
          (fills_if (file.blocks == 0) file.in_one_run c.args.by.now.lun file.blocks c.args.id)
          (λ x. finishes file c.args.dir c.args.name.now c.args.id) tt _ (both c.args.service.now c.args.source.now)
          (both c.fill_file.new.service c.fill_file.new.source) (both c.finish.new.service c.fill_file.new.source)
          c.in_ok-fill_file.ensures.runs c.finish.ensures.runs;
    }
