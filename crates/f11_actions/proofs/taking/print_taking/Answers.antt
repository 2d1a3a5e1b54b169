use Rattle.std.proofs.Common.{ℕ, List, inl, inr, refl, subst}
use Rattle.f11_actions.specs.Would.{TellsNames}
use Rattle.f11_actions.proofs.taking.print_taking.Goals as goal

pub returns-in-Ok : goal.returns-in-Ok
returns-in-Ok g c =
    let b = c.in-Ok.ensures.begins in
    record {
      ends = inl
          (record {
            faulty = c.in-Ok.faulty;
            those = c.in-Ok.names.items;
            begins = record { read = b.read; verified = b.verified; chosen = b.chosen; some = b.some; untouched = refl };
            tells =
                subst
                (λ (ys : List (List ℕ)). TellsNames c.in-Ok.faulty ys c.tell_taking.result g.W.Write.contents c.args.writer.now
                c.tell_taking.new.writer)
                c.deref.ensures.value
                (subst
                (λ x. TellsNames c.in-Ok.faulty c.deref.result.now c.tell_taking.result g.W.Write.contents x c.tell_taking.new.writer)
                b.untouched c.tell_taking.ensures.tells);
          });
    }

pub returns-in-Err : goal.returns-in-Err
returns-in-Err g c = record { ends = inr c.in-Err.ensures.ends }
