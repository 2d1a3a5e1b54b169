use Rattle.std.proofs.Common.{◌≡◌, ◌∙◌, List, ℕ, Bool, true, false, Option, Some, None, is_some, not, if◌then◌else◌, Bor, ap, refl}
use Rattle.std.specs.Option.{option_copied}
use Rattle.f11_script.specs.Reading.{at_end, words_of_rest}
use Rattle.f11_script.specs.Requests.{Ask}
use Rattle.f11_script.proofs.WordLemmas.{some_word}
use Rattle.f11_script.proofs.words.Words.is_empty.Goals as goal

-- none is left behind the last word
ends : (rest : Option (Bor (List ℕ))) (ask : Ask)
    → at_end (words_of_rest (option_copied rest)) ask ≡ (if not (is_some rest) then Some ask else None)
ends None ask = refl
ends (Some text) ask = some_word text.now ask

-- a test twice turned
turned : (b c : Bool) → b ≡ not c → not b ≡ c
turned b true h = rw h refl
turned b false h = rw h refl

pub returns : goal.returns
returns c ask =
    ends c.args.self.rest ask
    ∙ ap (λ b. if b then Some ask else None) (turned (is_some c.args.self.rest) c.is_none.result c.is_none.ensures)
