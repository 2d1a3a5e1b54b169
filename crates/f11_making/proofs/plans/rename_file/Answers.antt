use Rattle.std.proofs.Common.{Ok}
use Rattle.f11_making.specs.Asking.{who_asks}
use Rattle.f11_making.specs.FilesPlan.{describes, if_granted, on_ok, one}
use Rattle.f11_making.specs.Plans.{finds_other, may_move, moves_if}
use Rattle.f11_making.proofs.PlanLemmas.{goes-then, refused-first}
use Rattle.f11_making.proofs.plans.rename_file.Goals as goal

pub returns-in_err-was : goal.returns-in_err-was
returns-in_err-was g c =
    let S = g.S.Asked.service in
    let who = who_asks c.args.by.now.task c.args.by.now.uic in
    let old = c.args.old.now in
    let new = c.args.new.now in
    let id = c.in_ok-id.id in
    record {
      goes = goes-then S who (finds_other c.args.dir old)
          (on_ok (λ id. if_granted (one (describes id))
          (λ was. moves_if (may_move c.args.to new id was.ident) c.args.dir old c.args.to new id was.ident))) (Ok id) _
          c.args.service.now
          c.find_other.new.service _ c.in_ok-id.ensures.goes
          (refused-first S who (one (describes id))
          (λ was. moves_if (may_move c.args.to new id was.ident) c.args.dir old c.args.to new id was.ident)
          c.from_residual-in_err-was.result
          c.in_err-was.field-0.0 c.find_other.new.service c.ask_attributes.new.service c.in_err-was.ensures.goes
          c.from_residual-in_err-was.ensures.1);
    }
