use Rattle.std.proofs.Common.{sym, ◌∙◌}
use Rattle.f11_actions.proofs.CommandLemmas.{one-done, one-ended, one-unwritten}
use Rattle.f11_actions.proofs.acting.act_one.Goals as goal

pub returns-in-Some-clause-failed : goal.returns-in-Some-clause-failed
returns-in-Some-clause-failed g c =
    one-ended c.args.action.now c.carry_out-came.result c.first_task.result c.first_lun.result c.args.volume.now c.carry_out-came.new.vol
    c.first_task.ensures c.first_lun.ensures
    c.carry_out-came.ensures.carries c.in-Some.failure c.args.writer.now (sym c.ending.ensures ∙ c.in-Some.is)

pub returns-in-Ok-clause-does : goal.returns-in-Ok-clause-does
returns-in-Ok-clause-does g c =
    one-done c.args.action.now c.carry_out-came.result c.first_task.result c.first_lun.result c.args.volume.now c.carry_out-came.new.vol
    c.first_task.ensures c.first_lun.ensures
    c.carry_out-came.ensures.carries c.refused_one.result g.W.Write.contents c.args.writer.now c.write_line.new.writer
    (sym c.ending.ensures ∙ c.in_default.is) c.refused_one.ensures c.in-Ok.ensures

pub returns-in-Err-clause-failed : goal.returns-in-Err-clause-failed
returns-in-Err-clause-failed g c =
    one-unwritten c.args.action.now c.carry_out-came.result c.first_task.result c.first_lun.result c.args.volume.now
    c.carry_out-came.new.vol
    c.first_task.ensures c.first_lun.ensures
    c.carry_out-came.ensures.carries c.args.writer.now c.write_line.new.writer
    (sym c.ending.ensures ∙ c.in_default.is)
