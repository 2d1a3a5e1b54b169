use Rattle.std.proofs.Common.{sym, ◌∙◌}
use Rattle.f11_store.specs.declared.requests.Request.TheVariants as request
use Rattle.f11_making.specs.Asking.{who_asks}
use Rattle.f11_making.specs.FilesPlan.{done}
use Rattle.f11_copying.specs.Courses.{ask, both}
use Rattle.f11_copying.proofs.CourseLemmas.{err-else, lethal-else, ok-else}
use Rattle.f11_copying.proofs.filling.allocate_run.Goals as goal

pub returns-in-Ok : goal.returns-in-Ok
returns-in-Ok g c = record {
  runs = ok-else g.S.Asked.service g.B.Blocks.gives (who_asks c.args.by.now.task c.args.by.now.uic)
      (ask (done (request.Contiguous c.args.by.now.lun c.args.blocks))) (ask (done (request.Extend c.args.by.now.lun c.args.blocks))) tt
      (both c.args.service.now c.args.source.now) (both c.ask_volume.new.service c.args.source.now) c.in-Ok.ensures.runs;
}

pub returns-then-is_lethal : goal.returns-then-is_lethal
returns-then-is_lethal g c = record {
  runs = lethal-else g.S.Asked.service g.B.Blocks.gives (who_asks c.args.by.now.task c.args.by.now.uic)
      (ask (done (request.Contiguous c.args.by.now.lun c.args.blocks))) (ask (done (request.Extend c.args.by.now.lun c.args.blocks)))
      c.in-Err.fault (both c.args.service.now c.args.source.now) (both c.ask_volume.new.service c.args.source.now)
      (sym c.is_lethal.ensures ∙ c.if-is_lethal.true) c.in-Err.ensures.runs;
}

pub returns-else-is_lethal : goal.returns-else-is_lethal
returns-else-is_lethal g c = record {
  runs = err-else g.S.Asked.service g.B.Blocks.gives (who_asks c.args.by.now.task c.args.by.now.uic)
      (ask (done (request.Contiguous c.args.by.now.lun c.args.blocks))) (ask (done (request.Extend c.args.by.now.lun c.args.blocks)))
      c.in-Err.fault _ (both c.args.service.now c.args.source.now) (both c.ask_volume.new.service c.args.source.now)
      (both c.ask_volume-in-Err.new.service c.args.source.now) (sym c.is_lethal.ensures ∙ c.if-is_lethal.false) c.in-Err.ensures.runs
      c.ask_volume-in-Err.ensures.runs;
}
