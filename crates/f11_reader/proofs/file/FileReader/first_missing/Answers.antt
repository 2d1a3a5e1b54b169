use Rattle.std.proofs.Common.{Ok, ap, arith}
use Rattle.f11_bytes.proofs.ResultLemmas.{OnErr-given}
use Rattle.f11_reader.proofs.MissingLemmas.{missing-fails, missing-next, missing-no, passed-more, passed-none}
use Rattle.f11_reader.proofs.file.FileReader.first_missing.Goals as goal

pub loop-there-init : goal.loop-there-init
loop-there-init g c = passed-none _ _ _ _ c.requires.reading

pub returns-in_err-pass-clause-failed : goal.returns-in_err-pass-clause-failed
returns-in_err-pass-clause-failed g c =
    OnErr-given _ (missing-fails _ _ _ _ _ _ _ c.loop-there.invariant _ _ c.in_err-pass.ensures.failed)

pub returns-then-not-branch-clause-finds : goal.returns-then-not-branch-clause-finds
returns-then-not-branch-clause-finds g c =
    missing-next _ _ _ _ _ _ _ c.loop-there.invariant _ _ (c.in_ok-pass.ensures.lacks (ap Ok c.if-not-branch.true)) c.loop-there-test.true

pub loop-there-preserved : goal.loop-there-preserved
loop-there-preserved g c =
    passed-more _ _ _ _ _ _ _ c.loop-there.invariant _ _ (c.in_ok-pass.ensures.passes (ap Ok c.if-not-branch.false))
    c.in_ok-pass.ensures.reading

pub returns-clause-finds : goal.returns-clause-finds
returns-clause-finds g c = missing-no _ _ _ _ _ _ _ c.loop-there.invariant _ (omega (arith, c.loop-there-test.false))
