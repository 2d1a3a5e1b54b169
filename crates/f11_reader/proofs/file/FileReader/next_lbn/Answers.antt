use Rattle.std.proofs.Common.{Ok, ap, sym, ◌∙◌}
use Rattle.f11_bytes.proofs.ResultLemmas.{OnErr-given}
use Rattle.f11_reader.proofs.ReadLemmas.{none-left, gone-more, same-more, ends, fails-on, comes}
use Rattle.f11_reader.proofs.file.FileReader.next_lbn.Goals as goal

pub returns-in-Some-clause-comes : goal.returns-in-Some-clause-comes
returns-in-Some-clause-comes g c =
    comes _ _ _ _ _ _ c.loop.invariant.gone _ c.loop.invariant.same (sym c.lbn.ensures ∙ c.in-Some.is)

pub returns-in_err-next_header-clause-failed : goal.returns-in_err-next_header-clause-failed
returns-in_err-next_header-clause-failed g c =
    OnErr-given _ (fails-on _ _ _ _ _ _ c.loop.invariant.gone _ _ c.in_err-next_header.ensures.failed c.loop.invariant.same)

pub returns-then-not-branch-clause-ended : goal.returns-then-not-branch-clause-ended
returns-then-not-branch-clause-ended g c =
    ends _ _ _ _ _ _ c.loop.invariant.gone _ _ (c.in_ok-next_header.ensures.none (ap Ok c.if-not-branch.true)) c.loop.invariant.same
    (none-left _ _ (sym c.lbn.ensures ∙ c.in_default.is))

pub loop-preserved : goal.loop-preserved
loop-preserved g c =
    let steps = c.in_ok-next_header.ensures.steps (ap Ok c.if-not-branch.false) in
    record {
      gone = gone-more _ _ _ _ _ _ c.loop.invariant.gone _ _ steps c.in_ok-next_header.ensures.reading;
      same = same-more _ _ _ _ _ _ c.loop.invariant.gone _ _ steps c.loop.invariant.same
          (none-left _ _ (sym c.lbn.ensures ∙ c.in_default.is));
    }
