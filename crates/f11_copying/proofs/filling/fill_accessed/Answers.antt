use Rattle.std.proofs.Common.{Ok, Err}
use Rattle.f11_store.specs.declared.files.Mode.TheVariants as mode
use Rattle.f11_store.specs.declared.requests.Request.TheVariants as request
use Rattle.f11_making.specs.Asking.{who_asks}
use Rattle.f11_making.specs.FilesPlan.{done}
use Rattle.f11_copying.specs.Copies.{fills}
use Rattle.f11_copying.specs.Courses.{ask, both, on_err, on_ok, or_undone}
use Rattle.f11_copying.proofs.CourseLemmas.{ok-on, ok-undone, refused-first, runs-then}
use Rattle.f11_copying.proofs.filling.fill_accessed.Goals as goal

pub returns-in-Err : goal.returns-in-Err
returns-in-Err g c =
    let S = g.S.Asked.service in
    let K = g.B.Blocks.gives in
    let who = who_asks c.args.by.now.task c.args.by.now.uic in
    let lun = c.args.by.now.lun in
    record {
      runs = runs-then S K who (ask (done (request.Access c.args.id mode.Write lun)))
          (on_ok (λ x. or_undone (request.Deaccess lun) (fills c.args.in_one_run lun c.args.blocks))) (Ok tt) _
          (both c.args.service.now c.args.source.now) (both c.ask_volume.new.service c.args.source.now) _
          c.in_ok-ask_volume.ensures.runs
          (runs-then S K who (fills c.args.in_one_run lun c.args.blocks) (on_err (request.Deaccess lun)) (Err c.in-Err.fault) _
          (both c.ask_volume.new.service c.args.source.now) (both c.fill.new.service c.fill.new.source) _ c.in-Err.ensures.runs
          c.undo.ensures.runs);
    }

pub returns-in_err-ask_volume : goal.returns-in_err-ask_volume
returns-in_err-ask_volume g c =
    let lun = c.args.by.now.lun in
    record {
      runs = refused-first g.S.Asked.service g.B.Blocks.gives (who_asks c.args.by.now.task c.args.by.now.uic)
          (ask (done (request.Access c.args.id mode.Write lun)))
          (λ x. or_undone (request.Deaccess lun) (fills c.args.in_one_run lun c.args.blocks))
          c.from_residual.result c.in_err-ask_volume.field-0.0 (both c.args.service.now c.args.source.now)
          (both c.ask_volume.new.service c.args.source.now) c.in_err-ask_volume.ensures.runs c.from_residual.ensures.1;
    }

pub returns-in-Ok : goal.returns-in-Ok
returns-in-Ok g c =
    let S = g.S.Asked.service in
    let K = g.B.Blocks.gives in
    let who = who_asks c.args.by.now.task c.args.by.now.uic in
    let lun = c.args.by.now.lun in
    record {
      runs = ok-on S K who (ask (done (request.Access c.args.id mode.Write lun)))
          (λ x. or_undone (request.Deaccess lun) (fills c.args.in_one_run lun c.args.blocks)) tt (Ok tt)
          (both c.args.service.now c.args.source.now) (both c.ask_volume.new.service c.args.source.now)
          (both c.fill.new.service c.fill.new.source) c.in_ok-ask_volume.ensures.runs
          (ok-undone S K who (request.Deaccess lun) (fills c.args.in_one_run lun c.args.blocks) tt
          (both c.ask_volume.new.service c.args.source.now) (both c.fill.new.service c.fill.new.source) c.in-Ok.ensures.runs);
    }
