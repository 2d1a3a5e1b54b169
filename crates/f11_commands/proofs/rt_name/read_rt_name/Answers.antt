use Rattle.std.proofs.Common.{◌∙◌, map, sym, ap, subst}
use Rattle.std.specs.Char.{to_ascii_uppercase}
use Rattle.rt11_volume.specs.RtName.{RtSpells}
use Rattle.f11_commands.proofs.rt_name.read_rt_name.Goals as goal

pub returns-in-Ok-clause-every : goal.returns-in-Ok-clause-every
returns-in-Ok-clause-every c words spells =
    let text = c.put_capitals.ensures.front ∙ ap (map to_ascii_uppercase) c.as_bytes-bytes.ensures.value in
    let same = c.in-Ok.ensures.every words (subst (λ t. RtSpells t words) (sym text) spells) in cc

pub returns-in-Err-clause-every : goal.returns-in-Err-clause-every
returns-in-Err-clause-every c words spells =
    let text = c.put_capitals.ensures.front ∙ ap (map to_ascii_uppercase) c.as_bytes-bytes.ensures.value in
    absurd (let no = c.in-Err.ensures.every words (subst (λ t. RtSpells t words) (sym text) spells) in cc)
