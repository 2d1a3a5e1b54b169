use Rattle.std.proofs.Common.{◌∙◌, arith, subst, sym}
use Rattle.f11_files.proofs.AnswerLemmas.{handed}
use Rattle.f11_making.specs.declared.action.Action.{Action}
use Rattle.f11_actions.specs.Command.{BreaksOne, DoesOne}
use Rattle.f11_actions.proofs.CommandLemmas.{begins, breaks-off, did-all, few-tried, goes-further, one-refused, stops, takes-none}
use Rattle.f11_actions.proofs.acting.act_all.Goals as goal

pub loop-action-init : goal.loop-action-init
loop-action-init g c =
    begins c.args.behind c.args.actions.now g.W.Write.contents c.args.volume.now c.args.writer.now
    (takes-none (g.W.Write.contents c.args.writer.now))

pub returns-in_err-one-clause-failed : goal.returns-in_err-one-clause-failed
returns-in_err-one-clause-failed g c =
    let l = c.loop-action in
    let i = c.action-item in
    handed _ c.from_residual.result _ c.from_residual.ensures.1
    (breaks-off c.args.behind c.args.actions.now g.W.Write.contents c.args.volume.now c.args.writer.now l.action-index l.done l.refused
    i.result
    c.in_err-one.field-0.0 l.volume c.act_one.new.volume l.writer c.act_one.new.writer c.loop-action-test.true l.invariant
    (subst (λ (a : Action). BreaksOne a c.in_err-one.field-0.0 l.volume c.act_one.new.volume l.writer c.act_one.new.writer) i.is
    c.in_err-one.ensures.failed))

pub overflow_add-refused : goal.overflow_add-refused
overflow_add-refused g c =
    let l = c.loop-action in
    let few = few-tried c.args.behind c.args.actions.now g.W.Write.contents c.args.volume.now c.args.writer.now l.action-index l.done
    l.refused l.volume l.writer c.loop-action-test.true l.invariant in
    let one = one-refused c.args.behind c.args.actions.now g.W.Write.contents c.args.volume.now c.args.writer.now c.action-item.result
    c.in_ok-one.one l.volume c.act_one.new.volume l.writer c.act_one.new.writer c.in_ok-one.ensures.does in
    omega (arith, few, one, c.loop-action-test.true)

pub overflow_sub-done : goal.overflow_sub-done
overflow_sub-done g c =
    let l = c.loop-action in
    let one = one-refused c.args.behind c.args.actions.now g.W.Write.contents c.args.volume.now c.args.writer.now c.action-item.result
    c.in_ok-one.one l.volume c.act_one.new.volume l.writer c.act_one.new.writer c.in_ok-one.ensures.does in
    omega (arith, one)

pub overflow_add-done : goal.overflow_add-done
overflow_add-done g c =
    let l = c.loop-action in
    let few = few-tried c.args.behind c.args.actions.now g.W.Write.contents c.args.volume.now c.args.writer.now l.action-index l.done
    l.refused l.volume l.writer c.loop-action-test.true l.invariant in
    omega (arith, few, c.loop-action-test.true)

pub returns-then-is_stopped-clause-does : goal.returns-then-is_stopped-clause-does
returns-then-is_stopped-clause-does g c =
    let l = c.loop-action in
    let i = c.action-item in
    stops c.args.behind c.args.actions.now g.W.Write.contents c.args.volume.now c.args.writer.now l.action-index l.done l.refused
    c.in_ok-one.one i.result l.volume c.act_one.new.volume l.writer c.act_one.new.writer c.loop-action-test.true l.invariant
    (subst (λ (a : Action). DoesOne a c.in_ok-one.one l.volume c.act_one.new.volume g.W.Write.contents l.writer
    c.act_one.new.writer) i.is c.in_ok-one.ensures.does)
    (sym c.is_stopped.ensures ∙ c.if-is_stopped.true)

pub loop-action-preserved : goal.loop-action-preserved
loop-action-preserved g c =
    let l = c.loop-action in
    let i = c.action-item in
    goes-further c.args.behind c.args.actions.now g.W.Write.contents c.args.volume.now c.args.writer.now l.action-index l.done l.refused
    c.in_ok-one.one i.result l.volume c.act_one.new.volume l.writer c.act_one.new.writer c.loop-action-test.true l.invariant
    (subst (λ (a : Action). DoesOne a c.in_ok-one.one l.volume c.act_one.new.volume g.W.Write.contents l.writer
    c.act_one.new.writer) i.is c.in_ok-one.ensures.does)
    (sym c.is_stopped.ensures ∙ c.if-is_stopped.false)

pub returns-clause-does : goal.returns-clause-does
returns-clause-does g c =
    let l = c.loop-action in
    did-all c.args.behind c.args.actions.now g.W.Write.contents c.args.volume.now c.args.writer.now l.action-index l.done l.refused l.volume
    l.writer
    c.loop-action-test.false l.invariant
