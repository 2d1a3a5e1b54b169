use Rattle.std.proofs.Common.{inr, sym, subst}
use Rattle.f11_commands.specs.CopyCommand.{VerifiesFiles}
use Rattle.f11_commands.specs.CopyCommand.{refused_line}
use Rattle.f11_flx.specs.declared.refusal.FlxRefusal.TheVariants.{Files}
use Rattle.f11_actions.specs.Undone.{TellsWhy}
use Rattle.f11_actions.proofs.chosen.leave_all.Goals as goal

pub returns-in-Ok : goal.returns-in-Ok
returns-in-Ok g c =
    let accepted = c.in-Ok.ensures.accepted in
    record {
      ends =
          inr
          (record {
            verified = subst (λ d. VerifiesFiles (g.D.Device.disk c.args.device) (g.D.Device.disk d)) (sym c.device.ensures.device)
                accepted.0;
            tells =
                subst (λ x. TellsWhy (refused_line (Files c.args.refusal)) c.tell_none.result g.W.Write.contents x c.tell_none.new.writer)
                accepted.1
                c.tell_none.ensures.tells;
          });
    }
