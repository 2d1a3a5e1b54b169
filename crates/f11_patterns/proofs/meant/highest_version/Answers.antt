use Rattle.std.proofs.Common.{◌+◌, sym, ◌∙◌, subst}
use Rattle.f11_patterns.proofs.HighestLemmas.{HighestSoFar, begun, ended, raised, stayed}
use Rattle.f11_patterns.proofs.meant.highest_version.Goals.{then-is_higher, else-is_higher}
use Rattle.f11_patterns.proofs.meant.highest_version.Goals as goal

pub loop-other-init : goal.loop-other-init
loop-other-init c = begun c.args.names.now 0 c.args.name.now c.args.name.now

pub loop-other-preserved : goal.loop-other-preserved
loop-other-preserved c =
    let names = c.args.names.now in
    let l = c.loop-other in
    let item = c.other-item in
    let So = HighestSoFar names (l.other-index + 1) c.args.name.now in
    elim c.if-is_higher.branch [
      | then-is_higher w ↦
          subst So (sym w.highest-is)
          (raised names l.other-index c.args.name.now l.highest l.invariant item.result item.is c.loop-other-test.true
          (sym c.is_higher.ensures ∙ w.if-is_higher.true))
      | else-is_higher w ↦
          subst So (sym w.highest-is)
          (stayed names l.other-index c.args.name.now l.highest l.invariant item.result item.is c.loop-other-test.true
          (sym c.is_higher.ensures ∙ w.if-is_higher.false))
    ]

pub returns : goal.returns
returns c = record {
  highest = ended c.args.names.now c.loop-other.other-index c.args.name.now c.loop-other.highest c.loop-other.invariant
      c.loop-other-test.false;
}
