use Rattle.std.proofs.Common.{Ok, Err, refl}
use Rattle.f11_store.specs.declared.requests.Request.TheVariants as request
use Rattle.f11_making.specs.Asking.{who_asks}
use Rattle.f11_making.specs.FilesPlan.{names_for}
use Rattle.f11_making.specs.Plan.{gives}
use Rattle.f11_copying.specs.Copies.{fills_and_finishes, without_end}
use Rattle.f11_copying.specs.Courses.{ask, both, if_granted, on_err, or_undone}
use Rattle.f11_copying.proofs.CourseLemmas.{err-on, ok-on, ok-undone, refused-first, runs-then}
use Rattle.f11_copying.proofs.making.make_file.Goals as goal

pub returns-in_err-id : goal.returns-in_err-id
returns-in_err-id g c =
    let S = g.S.Asked.service in
    let K = g.B.Blocks.gives in
    let who = who_asks c.args.by.now.task c.args.by.now.uic in
    let file = c.args.file.now in
    record {
      runs = refused-first S K who (ask (names_for file.owner (request.Create 0 file.ident (without_end file.attr))))
          (λ id. if_granted (or_undone (request.Delete id) (fills_and_finishes file c.args.by.now.lun c.args.dir c.args.name.now id))
          (λ x. gives (Ok id)))
          c.from_residual.result c.in_err-id.field-0.0 (both c.args.service.now c.args.source.now)
          (both c.ask_volume_for.new.service c.args.source.now) (rw c.without_end.ensures at c.in_err-id.ensures.runs)
          c.from_residual.ensures.1;
    }

pub returns-in-Ok : goal.returns-in-Ok
returns-in-Ok g c =
    let S = g.S.Asked.service in
    let K = g.B.Blocks.gives in
    let who = who_asks c.args.by.now.task c.args.by.now.uic in
    let file = c.args.file.now in
    let id = c.in_ok-id.id in
    let fill = fills_and_finishes file c.args.by.now.lun c.args.dir c.args.name.now id in
    let created = both c.ask_volume_for.new.service c.args.source.now in
    let filled = both c.fill_and_finish.new.service c.fill_and_finish.new.source in
    record {
      runs = ok-on S K who (ask (names_for file.owner (request.Create 0 file.ident (without_end file.attr))))
          (λ id. if_granted (or_undone (request.Delete id) (fills_and_finishes file c.args.by.now.lun c.args.dir c.args.name.now id))
          (λ x. gives (Ok id)))
          id (Ok id) (both c.args.service.now c.args.source.now) created filled (rw c.without_end.ensures at c.in_ok-id.ensures.runs)
          (ok-on S K who (or_undone (request.Delete id) fill) (λ x. gives (Ok id)) tt (Ok id) created filled filled
          (ok-undone S K who (request.Delete id) fill tt created filled c.in-Ok.ensures.runs) (refl, refl));
    }

pub returns-in-Err : goal.returns-in-Err
returns-in-Err g c =
    let S = g.S.Asked.service in
    let K = g.B.Blocks.gives in
    let who = who_asks c.args.by.now.task c.args.by.now.uic in
    let file = c.args.file.now in
    let id = c.in_ok-id.id in
    let fill = fills_and_finishes file c.args.by.now.lun c.args.dir c.args.name.now id in
    let created = both c.ask_volume_for.new.service c.args.source.now in
    let filled = both c.fill_and_finish.new.service c.fill_and_finish.new.source in
    let undone = both c.undo.new.service c.fill_and_finish.new.source in
    record {
      runs = ok-on S K who (ask (names_for file.owner (request.Create 0 file.ident (without_end file.attr))))
          (λ id. if_granted (or_undone (request.Delete id) (fills_and_finishes file c.args.by.now.lun c.args.dir c.args.name.now id))
          (λ x. gives (Ok id)))
          id (Err c.undo.result) (both c.args.service.now c.args.source.now) created undone
          (rw c.without_end.ensures at c.in_ok-id.ensures.runs)
          (err-on S K who (or_undone (request.Delete id) fill) (λ x. gives (Ok id)) c.undo.result created undone
          (runs-then S K who fill (on_err (request.Delete id)) (Err c.in-Err.fault) (Err c.undo.result) created filled undone
          c.in-Err.ensures.runs c.undo.ensures.runs));
    }
