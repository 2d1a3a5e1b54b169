use Rattle.std.proofs.Common.{Ok, ap, refl, arith}
use Rattle.f11_catalog.proofs.OpenLemmas.{next-read, none-next}
use Rattle.f11_catalog.proofs.directory.DirectoryReader.next.Goals as goal

pub returns-then-self-eq0-clause-ended : goal.returns-then-self-eq0-clause-ended
returns-then-self-eq0-clause-ended g c = none-next _ _ _ c.if-self-eq0.true

pub returns-clause-reads : goal.returns-clause-reads
returns-clause-reads g c =
    next-read _ _ _ _ _ _ _ (c.in_ok-has_more.ensures.more (ap Ok c.if-not-branch.false)) (omega (arith, c.if-self-eq0.false))
    c.record_at-record.ensures refl refl refl refl
