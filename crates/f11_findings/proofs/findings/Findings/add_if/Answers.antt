use Rattle.std.proofs.Common.{subst, sym, Bool}
use Rattle.f11_findings.specs.Finding.{AddsFindings, if_so}
use Rattle.f11_findings.proofs.FindingLemmas.{Adds-none}
use Rattle.f11_findings.proofs.findings.Findings.add_if.Goals as goal

pub returns-else-holds-clause-adds : goal.returns-else-holds-clause-adds
returns-else-holds-clause-adds c =
    subst (λ (b : Bool). AddsFindings c.args.self.now c.args.self.now (if_so b c.args.finding)) (sym c.if-holds.false)
    (Adds-none c.args.self.now)
