use Rattle.std.proofs.Common.{◌∙◌, ◌+◌, Some, take, sym, ap}
use Rattle.std.proofs.lemmas.List.{take_rest}
use Rattle.std.specs.Option.{option_copied}
use Rattle.f11_script.specs.Reading.{next_word, words_between, words_of_rest}
use Rattle.f11_script.proofs.WordLemmas.{words_of-one, words_of-more}
use Rattle.f11_script.proofs.words.Words.next.Goals as goal

pub returns-in_default : goal.returns-in_default
returns-in_default c =
    ap (λ r. next_word (words_of_rest (option_copied r))) c.in_ok-text.was
    ∙ ap next_word (words_of-one c.in_ok-text.text.now (sym c.first_space.ensures ∙ c.in_default.is))

pub returns : goal.returns
returns c =
    ap (λ r. next_word (words_of_rest (option_copied r))) c.in_ok-text.was
    ∙ ap next_word (words_of-more c.in_ok-text.text.now c.in-Some.at (sym c.first_space.ensures ∙ c.in-Some.is))
    ∙ ap (λ rest. Some (take c.in-Some.at c.in_ok-text.text.now, words_between rest))
    (sym (take_rest c.in_ok-text.text.now (c.in-Some.at + 1)))
