use Rattle.std.proofs.Common.{◌≡◌, ◌∙◌, MatchOption, Some, subst}
use Rattle.f11_words.specs.Asking.{IsNoWord, SpellsWord}
use Rattle.f11_words.proofs.args.word_of.Goals as goal

pub returns : goal.returns
returns c text has =
    let met : Some c.in_ok-get_str.field-0.now ≡ Some text = c.in_ok-get_str.ensures ∙ has in
    subst (λ t. MatchOption c.word_in.result (IsNoWord t) (SpellsWord t)) (let same = met in cc) c.word_in.ensures
