use Rattle.f11_store.specs.declared.requests.Request.TheVariants as request
use Rattle.f11_making.specs.Asking.{who_asks}
use Rattle.f11_making.specs.FilesPlan.{done}
use Rattle.f11_copying.specs.Copies.{allocates, pours}
use Rattle.f11_copying.specs.Courses.{ask, both, if_granted}
use Rattle.f11_copying.proofs.CourseLemmas.{ok-on, refused-first}
use Rattle.f11_copying.proofs.filling.fill.Goals as goal

pub returns-in_err-allocate : goal.returns-in_err-allocate
returns-in_err-allocate g c =
    let lun = c.args.by.now.lun in
    record {
      runs = refused-first g.S.Asked.service g.B.Blocks.gives (who_asks c.args.by.now.task c.args.by.now.uic)
          (allocates c.args.in_one_run lun c.args.blocks)
          (λ x. if_granted (pours lun 0 c.args.blocks) (λ y. ask (done (request.Deaccess lun))))
          c.from_residual.result c.in_err-allocate.field-0.0 (both c.args.service.now c.args.source.now)
          (both c.allocate.new.service c.args.source.now) c.in_err-allocate.ensures.runs c.from_residual.ensures.1;
    }

pub returns-in_err-pour : goal.returns-in_err-pour
returns-in_err-pour g c =
    let S = g.S.Asked.service in
    let K = g.B.Blocks.gives in
    let who = who_asks c.args.by.now.task c.args.by.now.uic in
    let lun = c.args.by.now.lun in
    record {
      runs = ok-on S K who (allocates c.args.in_one_run lun c.args.blocks)
          (λ x. if_granted (pours lun 0 c.args.blocks) (λ y. ask (done (request.Deaccess lun)))) tt _
          (both c.args.service.now c.args.source.now) (both c.allocate.new.service c.args.source.now)
          (both c.pour.new.service c.pour.new.source) c.in_ok-allocate.ensures.runs
          (refused-first S K who (pours lun 0 c.args.blocks) (λ y. ask (done (request.Deaccess lun)))
          c.from_residual-in_err-pour.result c.in_err-pour.field-0.0 (both c.allocate.new.service c.args.source.now)
          (both c.pour.new.service c.pour.new.source) c.in_err-pour.ensures.runs c.from_residual-in_err-pour.ensures.1);
    }

pub returns : goal.returns
returns g c =
    let S = g.S.Asked.service in
    let K = g.B.Blocks.gives in
    let who = who_asks c.args.by.now.task c.args.by.now.uic in
    let lun = c.args.by.now.lun in
    record {
      runs = ok-on S K who (allocates c.args.in_one_run lun c.args.blocks)
          (λ x. if_granted (pours lun 0 c.args.blocks) (λ y. ask (done (request.Deaccess lun)))) tt _
          (both c.args.service.now c.args.source.now) (both c.allocate.new.service c.args.source.now)
          (both c.ask_volume.new.service c.pour.new.source) c.in_ok-allocate.ensures.runs
          (ok-on S K who (pours lun 0 c.args.blocks) (λ y. ask (done (request.Deaccess lun))) tt _
          (both c.allocate.new.service c.args.source.now) (both c.pour.new.service c.pour.new.source)
          (both c.ask_volume.new.service c.pour.new.source) c.in_ok-pour.ensures.runs c.ask_volume.ensures.runs);
    }
