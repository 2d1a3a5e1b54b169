use Rattle.std.proofs.Common.{ℕ, List, inl, refl, subst}
use Rattle.f11_commands.specs.Output.{WriterTakes}
use Rattle.f11_actions.specs.Lines.{copy_line}
use Rattle.f11_actions.proofs.CommandLemmas.{takes-none}
use Rattle.f11_actions.proofs.WouldLemmas.{wrote-all, wrote-more}
use Rattle.f11_actions.proofs.taking.tell_taking.Goals as goal

pub loop-name-init : goal.loop-name-init
loop-name-init g c = takes-none (g.W.Write.contents c.args.writer.now)

pub loop-name-preserved : goal.loop-name-preserved
loop-name-preserved g c =
    let l = c.loop-name in
    let i = c.name-item in
    wrote-more copy_line c.args.names.now g.W.Write.contents c.args.writer.now l.name-index i.result l.writer
    c.write_copy_line.new.writer c.loop-name-test.true l.invariant
    (subst (λ (n : List ℕ). WriterTakes g.W.Write.contents l.writer c.write_copy_line.new.writer (copy_line n)) i.is
    c.in_ok-write_copy_line.ensures)

pub returns : goal.returns
returns g c =
    let l = c.loop-name in
    record {
      tells = inl (
        refl,
        wrote-all copy_line c.args.names.now g.W.Write.contents c.args.writer.now l.name-index _ l.writer
            c.write_all_copy_line.new.writer c.loop-name-test.false l.invariant c.in_ok-write_all_copy_line.ensures,
      );
    }
