use Rattle.std.proofs.Common.{◌-◌, subst, sym, ◌∙◌, arith}
use Rattle.std.specs.List.{Contains}
use Rattle.std.proofs.lemmas.List.Elements.{Contains-get_or}
use Rattle.f11_findings.proofs.FindingLemmas.{same_finding}
use Rattle.f11_findings.proofs.findings.place_for.Goals as goal

-- the one in front of the place is the finding
pub returns-then-eq : goal.returns-then-eq
returns-then-eq c =
    let same = same_finding _ c.args.finding.now (sym c.eq.ensures ∙ c.if-eq.true) in
    subst (Contains c.args.list.now) same (Contains-get_or c.args.list.now (c.loop-at.at - 1) _ (omega arith))
