use Rattle.f11_rad50.proofs.Words.{found_at, without, dot_out}
use Rattle.rt11_volume.proofs.name.RtName.read.Goals as goal

pub returns-in_err-name-clause-every : goal.returns-in_err-name-clause-every
returns-in_err-name-clause-every c = λ words s.
    absurd (c.in_err-name.ensures.first s.name s.type (without 46 s.name dot_out s.proper.name_characters) s.is_text)

pub returns-clause-every : goal.returns-clause-every
returns-clause-every c = λ words s.
    let dot = c.in_ok-name.ensures.first s.name s.type (without 46 s.name dot_out s.proper.name_characters) s.is_text in
    found_at c.of_parts.result _ _ words c.of_parts.ensures (rw (dot.0, dot.1) s.proper) (rw (dot.0, dot.1) s.same_words)
