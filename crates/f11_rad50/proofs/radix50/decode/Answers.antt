use Rattle.std.proofs.Common.{sym, ap, ◌∙◌, Some}
use Rattle.std.proofs.lemmas.Bool.{false≢true}
use Rattle.f11_rad50.proofs.Codes.{radix50-lt, IsRadix50-characters_of, characters_of-IsRadix50}
use Rattle.f11_rad50.proofs.radix50.decode.Goals as goal

pub returns-then-are_characters-clause-characters : goal.returns-then-are_characters-clause-characters
returns-then-are_characters-clause-characters c =
    IsRadix50-characters_of _ _ c.characters_of-characters.ensures (c.are_characters.ensures.0 c.if-are_characters.true)

pub returns-then-are_characters-clause-limit : goal.returns-then-are_characters-clause-limit
returns-then-are_characters-clause-limit c =
    let r = IsRadix50-characters_of _ _ c.characters_of-characters.ensures (c.are_characters.ensures.0 c.if-are_characters.true) in
    rw (← r.value) (radix50-lt c.characters_of-characters.result)

pub returns-then-are_characters-clause-every : goal.returns-then-are_characters-clause-every
returns-then-are_characters-clause-every c = λ cs r.
    ap Some (c.characters_of-characters.ensures ∙ characters_of-IsRadix50 cs _ r)

pub returns-else-are_characters-clause-every : goal.returns-else-are_characters-clause-every
returns-else-are_characters-clause-every c = λ cs r.
    let same = c.characters_of-characters.ensures ∙ characters_of-IsRadix50 cs _ r in
    absurd (false≢true (sym c.if-are_characters.false ∙ c.are_characters.ensures.1 (rw same r.in_set)))
