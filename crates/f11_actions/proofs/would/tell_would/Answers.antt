use Rattle.std.proofs.Common.{inl, refl, subst}
use Rattle.f11_commands.specs.Output.{WriterTakes}
use Rattle.f11_making.specs.declared.action.Action.{Action}
use Rattle.f11_actions.specs.Lines.{would_line}
use Rattle.f11_actions.proofs.CommandLemmas.{takes-none}
use Rattle.f11_actions.proofs.WouldLemmas.{wrote-all, wrote-more}
use Rattle.f11_actions.proofs.would.tell_would.Goals as goal

pub loop-action-init : goal.loop-action-init
loop-action-init g c = takes-none (g.W.Write.contents c.args.writer.now)

pub loop-action-preserved : goal.loop-action-preserved
loop-action-preserved g c =
    let l = c.loop-action in
    let i = c.action-item in
    wrote-more would_line c.args.actions.now g.W.Write.contents c.args.writer.now l.action-index i.result l.writer
    c.write_would_line.new.writer c.loop-action-test.true l.invariant
    (subst (λ (a : Action). WriterTakes g.W.Write.contents l.writer c.write_would_line.new.writer (would_line a)) i.is
    c.in_ok-write_would_line.ensures)

pub returns : goal.returns
returns g c =
    let l = c.loop-action in
    record {
      tells = inl (
        refl,
        wrote-all would_line c.args.actions.now g.W.Write.contents c.args.writer.now l.action-index _ l.writer
            c.write_all_would_line.new.writer c.loop-action-test.false l.invariant c.in_ok-write_all_would_line.ensures,
      );
    }
