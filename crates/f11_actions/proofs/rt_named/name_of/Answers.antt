use Rattle.std.proofs.Common.{sym, subst}
use Rattle.rt11_volume.specs.RtName.{RtSpells}
use Rattle.f11_actions.proofs.rt_named.name_of.Goals as goal

pub returns-in-Err-clause-none : goal.returns-in-Err-clause-none
returns-in-Err-clause-none c = λ words spells.
    let no = c.in-Err.ensures.every words (subst (λ t. RtSpells t words) (sym c.put_capitals.ensures.front) spells) in cc
