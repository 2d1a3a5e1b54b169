use Rattle.std.proofs.lemmas.Result.{IfOk-weaker}
use Rattle.f11_chain.proofs.AlongLemmas.{break-first, failed-first, handed-on, along-behind, break-behind, last-behind}
use Rattle.f11_chain.proofs.blocks.last.Goals as goal

pub returns-in_err-first-clause-damaged : goal.returns-in_err-first-clause-damaged
returns-in_err-first-clause-damaged g c =
    λ is. break-first _ _ _ _ c.requires.slot.0 (c.in_err-first.ensures.damaged (handed-on _ _ _ c.from_residual.ensures.1 is))

pub returns-in_err-first-clause-failed : goal.returns-in_err-first-clause-failed
returns-in_err-first-clause-failed g c =
    λ is. failed-first _ _ _ _ c.requires.slot.0 (c.in_err-first.ensures.failed (handed-on _ _ _ c.from_residual.ensures.1 is))

pub returns-clause-reads : goal.returns-clause-reads
returns-clause-reads g c =
    IfOk-weaker _ _ _ (λ last. last-behind _ _ _ _ c.in_ok-first.ensures.reads.looked last _ _) c.last_from.ensures.reads

pub returns-clause-damaged : goal.returns-clause-damaged
returns-clause-damaged g c = λ is. break-behind _ _ _ _ c.in_ok-first.ensures.reads.looked _ (c.last_from.ensures.damaged is)

pub returns-clause-failed : goal.returns-clause-failed
returns-clause-failed g c = λ is. along-behind _ _ _ _ c.in_ok-first.ensures.reads.looked _ _ (c.last_from.ensures.failed is)
