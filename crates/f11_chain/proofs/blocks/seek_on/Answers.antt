use Rattle.std.proofs.lemmas.Result.{IfOk-weaker}
use Rattle.f11_index.specs.Kept.{index_kept}
use Rattle.f11_chain.proofs.AlongLemmas.{along-behind, break-behind, end-behind, failed-header, seeks-behind}
use Rattle.f11_chain.proofs.blocks.seek_on.Goals as goal

pub returns-in_err-read_header-clause-failed : goal.returns-in_err-read_header-clause-failed
returns-in_err-read_header-clause-failed g c = λ _.
    failed-header (index_kept c.args.index.now) c.args.from.now _ _ (g.met.D.Device.is_image c.args.device.now) c.requires.is_at
    c.in_err-read_header.ensures.failed

pub returns-clause-seeks : goal.returns-clause-seeks
returns-clause-seeks g c =
    IfOk-weaker _ _ _ (λ place. seeks-behind _ _ _ _ c.in_ok-read_header.ensures.reads.looked _ place _ _) c.go_on.ensures.seeks

pub returns-clause-end : goal.returns-clause-end
returns-clause-end g c = λ is. end-behind _ _ _ _ c.in_ok-read_header.ensures.reads.looked _ _ (c.go_on.ensures.end is)

pub returns-clause-damaged : goal.returns-clause-damaged
returns-clause-damaged g c = λ is. break-behind _ _ _ _ c.in_ok-read_header.ensures.reads.looked _ (c.go_on.ensures.damaged is)

pub returns-clause-failed : goal.returns-clause-failed
returns-clause-failed g c = λ is. along-behind _ _ _ _ c.in_ok-read_header.ensures.reads.looked _ _ (c.go_on.ensures.failed is)
