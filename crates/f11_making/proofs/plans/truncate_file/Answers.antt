use Rattle.std.proofs.Common.{Ok}
use Rattle.f11_making.specs.Asking.{who_asks}
use Rattle.f11_making.specs.FilesPlan.{describes, if_granted, on_ok, one}
use Rattle.f11_making.specs.Plans.{cuts_if, finds_other, states_end}
use Rattle.f11_making.proofs.PlanLemmas.{goes-then, refused-first}
use Rattle.f11_making.proofs.plans.truncate_file.Goals as goal

pub returns-in_err-of : goal.returns-in_err-of
returns-in_err-of g c =
    let S = g.S.Asked.service in
    let who = who_asks c.args.by.now.task c.args.by.now.uic in
    let lun = c.args.by.now.lun in
    let id = c.in_ok-id.id in
    record {
      goes = goes-then S who (finds_other c.args.dir c.args.name.now)
          (on_ok (λ id. if_granted (one (describes id)) (λ of. cuts_if (states_end of) lun id of.attr))) (Ok id) _ c.args.service.now
          c.find_other.new.service _ c.in_ok-id.ensures.goes
          (refused-first S who (one (describes id)) (λ of. cuts_if (states_end of) lun id of.attr) c.from_residual-in_err-of.result
          c.in_err-of.field-0.0 c.find_other.new.service c.ask_attributes.new.service c.in_err-of.ensures.goes
          c.from_residual-in_err-of.ensures.1);
    }
