use Rattle.std.proofs.Common.{◌≡◌, ◌∙◌, ◌∷◌, [], All, ap, subst, sym}
use Rattle.std.specs.Str.{str_to_ascii_uppercase}
use Rattle.f11_rad50.specs.Radix50.{IsCharacter, radix50}
use Rattle.f11_patterns.proofs.NamingLemmas.{are-characters, three_at, value-at}
use Rattle.f11_patterns.proofs.naming.word_at.Goals as goal

pub returns-in-Ok : goal.returns-in-Ok
returns-in-Ok c =
    let cs = str_to_ascii_uppercase c.args.part.now in
    let same : (c.capital_at.result ∷ c.capital_at-2.result ∷ c.capital_at-3.result ∷ []) ≡ three_at cs c.args.at =
    λ i. c.capital_at.ensures i ∷ c.capital_at-2.ensures i ∷ c.capital_at-3.ensures i ∷ [] in
    sym c.in-Ok.ensures.value.value ∙ ap radix50 same ∙ value-at cs c.args.at

pub returns-in-Err : goal.returns-in-Err
returns-in-Err c =
    let cs = str_to_ascii_uppercase c.args.part.now in
    let same : (c.capital_at.result ∷ c.capital_at-2.result ∷ c.capital_at-3.result ∷ []) ≡ three_at cs c.args.at =
    λ i. c.capital_at.ensures i ∷ c.capital_at-2.ensures i ∷ c.capital_at-3.ensures i ∷ [] in
    absurd (c.in-Err.ensures.refused (subst (All IsCharacter) (sym same) (are-characters cs c.args.at c.requires.characters)))
