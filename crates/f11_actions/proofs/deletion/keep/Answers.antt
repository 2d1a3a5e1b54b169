use Rattle.std.proofs.Common.{inr, sym, subst}
use Rattle.f11_commands.specs.CopyCommand.{VerifiesFiles}
use Rattle.f11_actions.specs.Deletion.{kept_lines}
use Rattle.f11_actions.specs.Undone.{TellsWhy}
use Rattle.f11_actions.proofs.deletion.keep.Goals as goal

pub returns-in-Ok : goal.returns-in-Ok
returns-in-Ok g c =
    let accepted = c.in-Ok.ensures.accepted in
    let lines = kept_lines c.args.directory c.args.name in
    record {
      ends =
          inr
          (record {
            verified = subst (λ d. VerifiesFiles (g.D.Device.disk c.args.device) (g.D.Device.disk d)) (sym c.device.ensures.device)
                accepted.0;
            tells = subst (λ x. TellsWhy lines c.tell_kept.result g.W.Write.contents x c.tell_kept.new.writer) accepted.1
                c.tell_kept.ensures.tells;
          });
    }
