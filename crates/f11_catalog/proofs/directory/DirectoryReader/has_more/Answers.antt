use Rattle.std.proofs.Common.{Ok, ap, refl, arith}
use Rattle.f11_catalog.proofs.OpenLemmas.{ends, turns}
use Rattle.f11_catalog.proofs.directory.DirectoryReader.has_more.Goals as goal

pub returns-then-not-branch-clause-ended : goal.returns-then-not-branch-clause-ended
returns-then-not-branch-clause-ended g c = λ _.
    let within = c.args.self.now.within in
    ends _ c.args.self.now _ _ (omega (arith, within, c.if-self-lt-RECORDS.false)) _
    (c.in_ok-read.ensures.ended (ap Ok c.if-not-branch.true))

pub returns-clause-more : goal.returns-clause-more
returns-clause-more g c = λ _.
    let within = c.args.self.now.within in
    turns _ c.args.self.now _ _ (omega (arith, within, c.if-self-lt-RECORDS.false)) _ _
    (c.in_ok-read.ensures.reads (ap Ok c.if-not-branch.false)) refl refl refl
