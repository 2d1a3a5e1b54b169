use Rattle.rt11_volume.proofs.NameLemmas.{not_refused, three_characters}
use Rattle.rt11_volume.proofs.name.word_at.Goals as goal

pub returns-clause-none : goal.returns-clause-none
returns-clause-none c = λ none pass.
    not_refused c.encode.result c.ok.result _ c.ok.ensures.variant c.encode.ensures.refused none
    (three_characters c.args.part.now c.args.at _ _ _ c.character_at.ensures c.character_at-2.ensures c.character_at-3.ensures pass)
