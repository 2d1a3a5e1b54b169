use Rattle.f11_actions.proofs.CommandLemmas.{Began}
use Rattle.f11_actions.proofs.acting.act_all.Given as goal

-- so many of them were done, and none is stopped
abbrev pub invariant-loop-action : goal.invariant-loop-action
invariant-loop-action g l =
    Began l.behind l.actions l.action-index l.done l.refused l.fn.volume l.volume (g.W.Write.contents) l.fn.writer l.writer
