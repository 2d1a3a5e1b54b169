use Rattle.std.proofs.Common.{Ok, Err}
use Rattle.f11_store.specs.declared.files.Change.TheVariants as change
use Rattle.f11_store.specs.declared.requests.Request.TheVariants as request
use Rattle.f11_making.specs.Asking.{who_asks}
use Rattle.f11_making.specs.FilesPlan.{done}
use Rattle.f11_copying.specs.Courses.{ask, both, on_err, or_undone}
use Rattle.f11_copying.proofs.CourseLemmas.{ok-on, ok-undone, refused-first, runs-then}
use Rattle.f11_copying.proofs.making.enter.Goals as goal

pub returns-in_err-ask_volume : goal.returns-in_err-ask_volume
returns-in_err-ask_volume g c =
    let enter = ask (done (request.Enter c.args.dir c.args.name.now c.args.id)) in
    let protect = ask (done (request.WriteAttr c.args.id (change.Protect c.args.file.now.protection))) in
    record {
      runs = refused-first g.S.Asked.service g.B.Blocks.gives (who_asks c.args.by.now.task c.args.by.now.uic) enter
          (λ x. or_undone (request.Remove c.args.dir c.args.name.now) protect) c.from_residual.result c.in_err-ask_volume.field-0.0
          (both c.args.service.now c.args.source.now) (both c.ask_volume.new.service c.args.source.now)
          c.in_err-ask_volume.ensures.runs c.from_residual.ensures.1;
    }

pub returns-in-Ok : goal.returns-in-Ok
returns-in-Ok g c =
    let S = g.S.Asked.service in
    let K = g.B.Blocks.gives in
    let who = who_asks c.args.by.now.task c.args.by.now.uic in
    let enter = ask (done (request.Enter c.args.dir c.args.name.now c.args.id)) in
    let protect = ask (done (request.WriteAttr c.args.id (change.Protect c.args.file.now.protection))) in
    let remove = request.Remove c.args.dir c.args.name.now in
    let entered = both c.ask_volume.new.service c.args.source.now in
    let protected = both c.ask_volume-2.new.service c.args.source.now in
    record {
      runs = ok-on S K who enter (λ x. or_undone remove protect) tt (Ok tt) (both c.args.service.now c.args.source.now) entered protected
          c.in_ok-ask_volume.ensures.runs (ok-undone S K who remove protect tt entered protected c.in-Ok.ensures.runs);
    }

pub returns-in-Err : goal.returns-in-Err
returns-in-Err g c =
    let S = g.S.Asked.service in
    let K = g.B.Blocks.gives in
    let who = who_asks c.args.by.now.task c.args.by.now.uic in
    let enter = ask (done (request.Enter c.args.dir c.args.name.now c.args.id)) in
    let protect = ask (done (request.WriteAttr c.args.id (change.Protect c.args.file.now.protection))) in
    let remove = request.Remove c.args.dir c.args.name.now in
    let entered = both c.ask_volume.new.service c.args.source.now in
    let refused = both c.ask_volume-2.new.service c.args.source.now in
    let undone = both c.undo.new.service c.args.source.now in
    record {
      runs = ok-on S K who enter (λ x. or_undone remove protect) tt _ (both c.args.service.now c.args.source.now) entered undone
          c.in_ok-ask_volume.ensures.runs
          (runs-then S K who protect (on_err remove) (Err c.in-Err.fault) _ entered refused undone c.in-Err.ensures.runs
          c.undo.ensures.runs);
    }
