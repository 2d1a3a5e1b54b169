use Rattle.std.proofs.Common.{sym, subst}
use Rattle.f11_rad50.specs.Name.{Spells}
use Rattle.rt11_volume.specs.RtName.{RtSpells}
use Rattle.f11_commands.proofs.copy.names.read_names.Goals as goal

pub returns-in-Err-clause-every : goal.returns-in-Err-clause-every
returns-in-Err-clause-every c words rt_words spells rt_spells =
    absurd (let no = c.in-Err.ensures.every words (subst (λ t. Spells t words) (sym c.as_bytes.ensures.value) spells) in cc)

pub returns-in-Ok-parse-clause-every : goal.returns-in-Ok-parse-clause-every
returns-in-Ok-parse-clause-every c words rt_words spells rt_spells =
    let name = c.in-Ok.ensures.every words (subst (λ t. Spells t words) (sym c.as_bytes.ensures.value) spells) in
    let rt = c.in-Ok-parse.ensures.every rt_words (subst (λ t. RtSpells t rt_words) (sym c.as_bytes-2.ensures.value) rt_spells) in cc

pub returns-in-Err-parse-clause-every : goal.returns-in-Err-parse-clause-every
returns-in-Err-parse-clause-every c words rt_words spells rt_spells =
    absurd (let no = c.in-Err-parse.ensures.every rt_words (subst (λ t. RtSpells t rt_words) (sym c.as_bytes-2.ensures.value) rt_spells) in
    cc)
