use Rattle.f11_store.specs.declared.files.Change.TheVariants as change
use Rattle.f11_store.specs.declared.requests.Request.TheVariants as request
use Rattle.f11_making.specs.Asking.{who_asks}
use Rattle.f11_making.specs.FilesPlan.{done}
use Rattle.f11_copying.specs.Copies.{enters}
use Rattle.f11_copying.specs.Courses.{ask, both}
use Rattle.f11_copying.proofs.CourseLemmas.{ok-on, refused-first}
use Rattle.f11_copying.proofs.making.finish.Goals as goal

pub returns-in_err-ask_volume : goal.returns-in_err-ask_volume
returns-in_err-ask_volume g c = record {
  runs = refused-first g.S.Asked.service g.B.Blocks.gives (who_asks c.args.by.now.task c.args.by.now.uic)
      (ask (done (request.WriteAttr c.args.id (change.Attr c.args.file.now.attr))))
      (λ x. enters c.args.file.now c.args.dir c.args.name.now c.args.id)
      c.from_residual.result c.in_err-ask_volume.field-0.0 (both c.args.service.now c.args.source.now)
      (both c.ask_volume.new.service c.args.source.now) c.in_err-ask_volume.ensures.runs c.from_residual.ensures.1;
}

pub returns : goal.returns
returns g c = record {
  runs = ok-on g.S.Asked.service g.B.Blocks.gives (who_asks c.args.by.now.task c.args.by.now.uic)
      (ask (done (request.WriteAttr c.args.id (change.Attr c.args.file.now.attr))))
      (λ x. enters c.args.file.now c.args.dir c.args.name.now c.args.id) tt _
      (both c.args.service.now c.args.source.now) (both c.ask_volume.new.service c.args.source.now)
      (both c.enter.new.service c.args.source.now) c.in_ok-ask_volume.ensures.runs c.enter.ensures.runs;
}
