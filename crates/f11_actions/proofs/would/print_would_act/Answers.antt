use Rattle.std.proofs.Common.{inl, inr, sym, subst}
use Rattle.f11_commands.specs.CopyCommand.{VerifiesFiles}
use Rattle.f11_commands.specs.declared.outcome.FileAnswer.TheVariants.{Done}
use Rattle.f11_actions.specs.Lines.{would_lines}
use Rattle.f11_actions.specs.Undone.{TellsLines}
use Rattle.f11_actions.proofs.WouldLemmas.{untouched-only}
use Rattle.f11_actions.proofs.would.print_would_act.Goals as goal

pub returns-in-Ok-clause-ends : goal.returns-in-Ok-clause-ends
returns-in-Ok-clause-ends g c =
    let accepted = c.in-Ok.ensures.accepted in
    inr
    (record {
      verified = subst (λ d. VerifiesFiles (g.D.Device.disk c.args.device) (g.D.Device.disk d)) (sym c.device.ensures.device)
          accepted.0;
      tells =
          subst (λ x. TellsLines Done (would_lines c.args.actions.now) c.tell_would.result g.W.Write.contents x c.tell_would.new.writer)
          accepted.1
          c.tell_would.ensures.tells;
    })

pub returns-in-Ok-clause-reads : goal.returns-in-Ok-clause-reads
returns-in-Ok-clause-reads g c = untouched-only _ _ _ _ _ _ _ _ (returns-in-Ok-clause-ends g c)

pub returns-in-Err-clause-ends : goal.returns-in-Err-clause-ends
returns-in-Err-clause-ends g c = inl c.in-Err.ensures.ended

pub returns-in-Err-clause-reads : goal.returns-in-Err-clause-reads
returns-in-Err-clause-reads g c = untouched-only Done (would_lines c.args.actions.now) _ _ _ _ _ _ (returns-in-Err-clause-ends g c)
