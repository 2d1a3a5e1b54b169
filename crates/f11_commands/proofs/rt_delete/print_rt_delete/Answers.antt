use Rattle.std.proofs.Common.{◌≡◌, ◌∙◌, true, false, sym}
use Rattle.f11_commands.specs.RtDelete.{DeletesNamed}
use Rattle.f11_commands.proofs.RtChangeLemmas.{changes-file, ends-change}
use Rattle.f11_commands.proofs.rt_delete.print_rt_delete.Goals as goal

pub returns : goal.returns
returns g c =
    let asked = c.delete-answer.ensures in
    record {
      ends =
          ends-change (DeletesNamed c.args.name.now) c.delete-answer.result _ _ (g.D.Device.disk c.in-Ok.volume.device) _ _
          g.W.Write.contents
          c.args.writer.now c.accept_rt.new.writer _ c.in-Ok.ensures.accepted
          (changes-file _ _ _ _ _ c.delete-answer.result _ _ asked.deleted asked.refused
          (λ is. let clash : true ≡ false = sym (asked.answers.failed.0 is) ∙ c.in-Ok.ensures.fresh in cc) asked.kept asked.went)
          c.end_change.ensures.ends;
    }
